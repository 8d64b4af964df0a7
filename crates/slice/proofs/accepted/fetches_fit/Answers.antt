-- `slice::accepted::fetches_fit` meets its contract. Assumes nothing.
use native.Mathlib.Omega.{arith}
use borrow.Author.Tests.{tests}
use Rattle.std.proofs.Common.{rules}
use Rattle.std.proofs.lemmas.Iterator.{YieldsList-from_range}
use Rattle.finite.proofs.Ranges.{all_in-range}
use Rattle.slice.specs.Fetches.{fetches_fit}
use Rattle.slice.proofs.accepted.fetches_fit.Goals as goal

pub returns : goal.returns
unfolding fetches_fit
returns c = all_in-range _ _ _ _ _ c.all.ensures.ran (YieldsList-from_range 0 c.args.n c.args.n (cc) (omega arith)) (λ x b q k. search (rules, tests))
