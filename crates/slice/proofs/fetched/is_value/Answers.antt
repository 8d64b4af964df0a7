-- `slice::fetched::is_value` meets its contract. Assumes nothing.
use mathlib.Core.Path.{sym, ◌∙◌}
use Rattle.slice.proofs.CoverLaws.{value-blank, value-other, value_same}
use Rattle.slice.proofs.fetched.is_value.Goals as goal

pub returns-then-is_blank : goal.returns-then-is_blank
returns-then-is_blank c = value-blank _ _ _ (sym c.is_blank.ensures ∙ c.if-is_blank.true)

pub returns-then-a-v : goal.returns-then-a-v
returns-then-a-v c = value-other _ _ _ c.if-a-v.true

pub returns : goal.returns
returns c = value_same _ _ _ _ (sym c.is_blank.ensures ∙ c.if-is_blank.false) c.if-a-v.false c.from.ensures
