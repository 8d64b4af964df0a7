-- `probe::grounds::is_demanded` meets its contract: a search among the constraints. Assumes nothing.
use Rattle.std.proofs.Common.{rules}
use borrow.Author.Tests.{tests}
use native.Mathlib.Omega.{arith}
use Rattle.std.proofs.lemmas.Iterator.{YieldsList-from_range, serves_from_Range}
use Rattle.finite.proofs.Ranges.{any_in-range}
use Rattle.model.specs.Probe.{demanded}
use Rattle.state.specs.Meaning.{scheme_of}
use Rattle.probe.proofs.grounds.is_demanded.Goals as goal

pub any-requires-clause-callable : goal.any-requires-clause-callable
any-requires-clause-callable c = serves_from_Range (λ x q k. search (rules, tests)) (λ i lo hi.
    let a = c.requires.in_range.0.source-table i in
    let b = c.requires.in_range.0.source i in search (rules, tests))

pub returns : goal.returns
unfolding demanded scheme_of
returns c = λ D x. let n = c.args.d.constraints in any_in-range _ _ _ _ _ c.any.ensures.ran (YieldsList-from_range 0 n n (cc) (omega arith)) (λ i b q k. search (rules, tests))
