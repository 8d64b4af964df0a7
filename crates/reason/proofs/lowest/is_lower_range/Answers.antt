-- `reason::lowest::is_lower_range` meets its contract: the fillings decide, or else the lows, or else the highs. Assumes nothing.
use mathlib.Core.Path.{◌∙◌}
use Rattle.finite.proofs.Order.{lower-apart, lower-alike}
use Rattle.model.specs.Reason.{lower_origin}
use Rattle.reason.proofs.lowest.is_lower_range.Goals as goal

pub returns-then-a-b : goal.returns-then-a-b
unfolding lower_origin
returns-then-a-b c = lower-apart _ _ _ c.if-a-b.true

pub returns-then-a-b-2 : goal.returns-then-a-b-2
unfolding lower_origin
returns-then-a-b-2 c = lower-apart _ _ _ c.if-a-b-2.true ∙ lower-alike _ _ _ c.if-a-b.false

pub returns : goal.returns
unfolding lower_origin
returns c = lower-alike _ _ _ c.if-a-b-2.false ∙ lower-alike _ _ _ c.if-a-b.false
