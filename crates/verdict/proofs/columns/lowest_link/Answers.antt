-- `verdict::columns::lowest_link` meets its contract: a search among the constraints. Assumes nothing.
use Rattle.std.proofs.Common.{rules}
use borrow.Author.Tests.{tests}
use mathlib.Core.Path.{refl}
use Rattle.std.proofs.lemmas.Iterator.{YieldsList-from_range, first_from_Range}
use Rattle.finite.proofs.Ranges.{first_in-range}
use Rattle.state.specs.Meaning.{scheme_of}
use Rattle.verdict.proofs.ColumnLaws.{found-below}
use Rattle.verdict.proofs.columns.lowest_link.Goals as goal

pub returns : goal.returns
unfolding scheme_of
returns c = let n = c.args.d.constraints in (
  first_in-range n _ 0 _ _ c.find.result c.find.ensures.ran (YieldsList-from_range 0 n _ (cc) refl) (λ x b q k. search (rules, tests)),
  found-below n c.find.result (first_from_Range _ _ _ c.find.result (λ _. Unit {0}) (λ _. Unit {0}) c.find.ensures.ran (λ x q k. tt) (λ x q k. search (rules, tests))),
)
