use Rattle.std.proofs.Common.{rules}
use borrow.Author.Tests.{tests}
use mathlib.Core.Path.{◌∙◌}
use Rattle.state.specs.Cells.{cells_in}
use Rattle.state.specs.Meaning.{cell_of, cell_at}
use Rattle.lawful.proofs.RowTests.{row-fits}
use Rattle.lawful.proofs.rows.fits_at.Goals as goal

pub returns : goal.returns
returns c = let a = c.args in let cells = cells_in a.rows.now.cells.now a.rows.now.issues.now in
    c.fits_table.ensures (λ i. cell_of (cell_at cells a.r i)) (λ i x k. search (rules, tests)) ∙ row-fits a.d.now cells a.rows.now.tables.now a.r
