-- `probe::held::is_held_at` meets its contract: a search among the desk's ranges. Assumes nothing.
use Rattle.std.proofs.Common.{rules}
use borrow.Author.Tests.{tests}
use native.Mathlib.Omega.{arith}
use Rattle.std.proofs.lemmas.Iterator.{YieldsList-from_range}
use Rattle.finite.proofs.Ranges.{any_in-range}
use Rattle.state.specs.Held.{ranges_at}
use Rattle.state.specs.HeldWords.{words_held}
use Rattle.probe.proofs.held.is_held_at.Goals as goal

pub returns : goal.returns
returns c = let n = (ranges_at (words_held c.args.held.now) c.args.e).count in
    any_in-range _ _ _ _ _ c.any.ensures.ran (YieldsList-from_range 0 n n (cc) (omega arith)) (λ x b q k. search (rules, tests))
