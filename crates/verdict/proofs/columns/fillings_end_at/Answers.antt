-- `verdict::columns::fillings_end_at` meets its contract: a search among the fillings. Assumes nothing.
use Rattle.std.proofs.Common.{rules}
use borrow.Author.Tests.{tests}
use native.Mathlib.Omega.{arith}
use Rattle.std.proofs.lemmas.Iterator.{YieldsList-from_range}
use Rattle.finite.proofs.Ranges.{all_in-range}
use Rattle.state.specs.Meaning.{scheme_of}
use Rattle.verdict.proofs.columns.fillings_end_at.Goals as goal

pub returns : goal.returns
unfolding scheme_of
returns c = let n = c.args.d.fillings in
    all_in-range n _ _ _ _ c.all.ensures.ran (YieldsList-from_range 0 n n (cc) (omega arith)) (λ x b q k. search (rules, tests))
