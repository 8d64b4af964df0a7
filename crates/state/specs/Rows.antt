-- Lent rows as the model has them. Assumes nothing.
use Rattle.state.specs.declared.rows.Rows.{Rows}
use Rattle.state.specs.Cells.{Cells, cells_in}
use Rattle.state.specs.Design.{Backed}
use Rattle.state.specs.Meaning.{database_of}
use Rattle.model.specs.Database.{Database}

abbrev pub cells_of : Rows → Cells
cells_of r = cells_in r.cells.now r.issues.now

abbrev pub database_in : Rows → Database
database_in r = database_of (cells_of r) r.tables.now

-- they have room for 512 rows
abbrev pub IsBacked : Rows → Type 0
IsBacked r = Backed (cells_of r) r.tables.now
