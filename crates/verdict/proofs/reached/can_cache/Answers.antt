-- `verdict::reached::can_cache` meets its contract: a search among the fillings. Assumes nothing.
use Rattle.std.proofs.Common.{rules}
use borrow.Author.Tests.{tests}
use native.Mathlib.Omega.{arith}
use Rattle.std.proofs.lemmas.Iterator.{YieldsList-from_range}
use Rattle.finite.proofs.Ranges.{any_in-range}
use Rattle.model.specs.Verdict.{can_cache}
use Rattle.state.specs.Meaning.{scheme_of}
use Rattle.verdict.proofs.ColumnLaws.{reach-at}
use Rattle.verdict.proofs.reached.can_cache.Goals as goal

pub returns : goal.returns
unfolding scheme_of can_cache
returns c = let n = c.args.d.fillings in
    any_in-range n _ _ _ _ c.any.ensures.ran (YieldsList-from_range 0 n n (cc) (omega arith))
    (λ x b q k. let r = reach-at _ _ _ _ c.requires.2 (c.requires.0.column-table x) c.requires.1 in search (rules, tests))
