-- `guard::distinct::row_links` meets its contract: a search among the columns. Assumes nothing.
use Rattle.std.proofs.Common.{rules}
use borrow.Author.Tests.{tests}
use mathlib.Core.Path.{refl}
use Rattle.std.proofs.lemmas.Iterator.{YieldsList-from_range}
use Rattle.finite.proofs.Ranges.{any_in-range}
use Rattle.guard.proofs.distinct.row_links.Goals as goal

pub returns : goal.returns
returns c = λ D x. any_in-range 8 _ _ _ _ c.any.ensures.ran (YieldsList-from_range 0 8 8 (cc) refl) (λ i b q k. search (rules, tests))
