-- `slice::lack::is_only` meets its contract. Assumes nothing.
use mathlib.Core.Path.{sym, ◌∙◌}
use Rattle.finite.proofs.Bools.{and-go}
use Rattle.slice.proofs.LackLaws.{below-any}
use Rattle.slice.proofs.lack.is_only.Goals as goal

pub returns-then-is_unique : goal.returns-then-is_unique
returns-then-is_unique c = λ D x. and-go _ _ (sym c.is_unique.ensures ∙ c.if-is_unique.true) (below-any _ _ _ x.links.size_is (c.find.ensures D x.directory))
