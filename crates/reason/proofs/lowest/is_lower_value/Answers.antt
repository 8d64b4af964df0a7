-- `reason::lowest::is_lower_value` meets its contract: the fillings decide, or else the values. Assumes nothing.
use mathlib.Core.Path.{◌∙◌}
use Rattle.finite.proofs.Order.{lower-apart, lower-alike}
use Rattle.model.specs.Reason.{lower_origin}
use Rattle.reason.proofs.lowest.is_lower_value.Goals as goal

pub returns-then-a-b : goal.returns-then-a-b
unfolding lower_origin
returns-then-a-b c = lower-apart _ _ _ c.if-a-b.true

pub returns : goal.returns
unfolding lower_origin
returns c = c.lower_cell.ensures ∙ lower-alike _ _ _ c.if-a-b.false
