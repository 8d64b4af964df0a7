-- `format::places::is_issued` meets its contract. Assumes nothing.
use mathlib.Core.Path.{refl}
use Rattle.std.proofs.Common.{rules}
use borrow.Author.Tests.{tests}
use Rattle.std.proofs.lemmas.Iterator.{YieldsList-from_range}
use Rattle.finite.proofs.Ranges.{any_in-range}
use Rattle.format.specs.Writing.{is_issued}
use Rattle.format.proofs.places.is_issued.Goals as goal

pub returns : goal.returns
unfolding is_issued
returns c = λ numbers. any_in-range 8 _ _ _ _ c.any.ensures.ran (YieldsList-from_range 0 8 8 (cc) refl) (λ x b q k. search (rules, tests))
