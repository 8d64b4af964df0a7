-- `format::places::issued_rows` meets its contract. Assumes nothing.
use native.Mathlib.Omega.{arith}
use Rattle.std.proofs.Common.{rules}
use borrow.Author.Tests.{tests}
use Rattle.std.proofs.lemmas.Iterator.{YieldsList-from_range}
use Rattle.std.proofs.lemmas.Iterator.Consumers.{YieldsList-from_filter}
use Rattle.finite.proofs.Ranges.{count_in-range}
use Rattle.state.specs.Cells.{cells_in}
use Rattle.format.specs.Writing.{is_issued}
use Rattle.format.proofs.places.issued_rows.Goals as goal

pub returns : goal.returns
returns c = λ numbers. count_in-range c.args.n _ c.filter.result _ c.count.ensures.ran
    (YieldsList-from_filter _ (is_issued (cells_in numbers c.args.issues.now)) (YieldsList-from_range 0 c.args.n c.args.n (cc) (omega arith)) c.filter.ensures.closure (λ x r q k. search (rules, tests)))
