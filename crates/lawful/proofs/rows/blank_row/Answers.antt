use Rattle.std.proofs.Common.{rules}
use borrow.Author.Tests.{tests}
use mathlib.Core.Path.{refl, ◌∙◌}
use Rattle.std.proofs.lemmas.Iterator.{YieldsList-from_range}
use Rattle.finite.proofs.Ranges.{all_in-range}
use Rattle.model.specs.Cell.{is_blank}
use Rattle.state.specs.Cells.{cells_in}
use Rattle.state.specs.Meaning.{cell_of, cell_at}
use Rattle.lawful.proofs.RowTests.{blank-cells}
use Rattle.lawful.proofs.rows.blank_row.Goals as goal

pub returns : goal.returns
returns c = λ tables. let cells = cells_in c.args.cells.now c.args.issues.now in
    all_in-range 8 (λ i. is_blank (cell_of (cell_at cells c.args.r i))) _ _ _ c.all.ensures.ran (YieldsList-from_range 0 8 8 (cc) refl) (λ x b q k. search (rules, tests)) ∙
    blank-cells cells tables c.args.r
