-- `guard::distinct::is_distinct` meets its contract: a search for a row that has a next row. Assumes nothing.
use Rattle.std.proofs.Common.{rules}
use borrow.Author.Tests.{tests}
use mathlib.Core.Path.{refl}
use Rattle.std.proofs.lemmas.Iterator.{YieldsList-from_range}
use Rattle.finite.proofs.Ranges.{all_in-range}
use Rattle.guard.specs.Distinct.{distinct}
use Rattle.guard.proofs.distinct.is_distinct.Goals as goal

pub returns : goal.returns
unfolding distinct
returns c = λ D x. all_in-range 512 _ _ _ _ c.all.ensures.ran (YieldsList-from_range 0 512 512 (cc) refl) (λ i b q k. search (rules, tests))
