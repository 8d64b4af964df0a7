-- `writing::lengths::live_issued_rows` meets its contract. Assumes nothing.
use mathlib.Core.Path.{refl}
use mathlib.Core.Bool.{◌&&◌}
use Rattle.std.proofs.Common.{rules}
use borrow.Author.Tests.{tests}
use Rattle.std.proofs.lemmas.Iterator.{YieldsList-from_range}
use Rattle.std.proofs.lemmas.Iterator.Consumers.{YieldsList-from_filter}
use Rattle.finite.proofs.Ranges.{count_in-range}
use Rattle.state.specs.Cells.{cells_in}
use Rattle.state.specs.Meaning.{database_of}
use Rattle.format.specs.Writing.{is_issued}
use Rattle.writing.proofs.lengths.live_issued_rows.Goals as goal

pub returns : goal.returns
returns c = λ numbers.
    let cells = cells_in numbers c.args.issues.now in
    count_in-range 512 _ c.filter.result _ c.count.ensures.ran
    (YieldsList-from_filter _ (λ r. (database_of cells c.args.tables.now).live r && is_issued cells r) (YieldsList-from_range 0 512 512 (cc) refl) c.filter.ensures.closure (λ x r q k. search (rules, tests)))
