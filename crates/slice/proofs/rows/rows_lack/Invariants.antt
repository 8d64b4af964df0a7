-- What the loops of `slice::rows::rows_lack` keep.
use mathlib.Core.Path.{◌≡◌}
use lib.ListN.{take}
use Rattle.model.specs.Missing as Model
use Rattle.model.specs.Runs.{marked}
use Rattle.state.specs.Cells.{cells_in}
use Rattle.state.specs.Meaning.{database_of, scheme_of}
use Rattle.catalog.specs.Catalog.{Demands}
use Rattle.slice.specs.Fetches.{fetches_in}
use Prim.Native.Nat.{◌≤◌}
use Rattle.slice.proofs.rows.rows_lack.Given as goal

abbrev pub invariant-loop-r : goal.invariant-loop-r
invariant-loop-r l = (l.r ≤ 512) ×
    (Demands (scheme_of l.d) (database_of (cells_in l.rows.cells.now l.rows.issues.now) l.rows.tables.now) l.catalog →
    Model.lack_below l.r (Model.row_lack (scheme_of l.d) (database_of (cells_in l.rows.cells.now l.rows.issues.now) l.rows.tables.now) (fetches_in l.words l.n) (marked (take 512 l.marks))) ≡ Model.nothing)
