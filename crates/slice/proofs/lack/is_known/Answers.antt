-- `slice::lack::is_known` meets its contract. Assumes nothing.
use mathlib.Core.Path.{sym, ◌∙◌}
use Rattle.slice.proofs.LackLaws.{only-known, fetched-known}
use Rattle.slice.proofs.lack.is_known.Goals as goal

pub returns-then-is_only : goal.returns-then-is_only
returns-then-is_only c = λ D x. c.if-is_only.true ∙ only-known _ D _ _ _ (sym (c.is_only.ensures D x) ∙ c.if-is_only.true)

pub returns-else-is_only : goal.returns-else-is_only
returns-else-is_only c = λ D x. fetched-known _ D _ _ _ (sym (c.is_only.ensures D x) ∙ c.if-is_only.false) c.is_fetched.ensures
