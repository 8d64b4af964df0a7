use Rattle.std.proofs.Common.{rules}
use borrow.Author.Tests.{tests}
use Rattle.std.proofs.lemmas.Iterator.{YieldsList-from_range}
use native.Mathlib.Omega.{arith}
use Rattle.change.proofs.Ranges.{any_in-range-below}
use Rattle.state.specs.Meaning.{scheme_of}
use Rattle.change.proofs.changing.leads_on.Goals as goal

pub returns : goal.returns
unfolding scheme_of
returns c D h = let n = c.args.d.constraints in
    any_in-range-below n _ _ _ _ c.any.ensures.ran (YieldsList-from_range 0 n n (cc) (omega arith)) (λ x b q k. search (rules, tests))
