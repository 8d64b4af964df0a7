-- What the loops of `catalog::columns::add_columns` keep.
use Prim.Native.Nat.{◌≤◌}
use Rattle.state.specs.Cells.{cells_in}
use Rattle.state.specs.Meaning.{database_of}
use Rattle.catalog.specs.Columns.{Columns}
use Rattle.catalog.proofs.columns.add_columns.Given as goal

abbrev pub invariant-loop-n : goal.invariant-loop-n
invariant-loop-n l = (l.n ≤ 64) × Columns (database_of (cells_in l.rows.cells.now l.rows.issues.now) l.rows.tables.now) l.n l.m l.keys l.heads l.starts l.next
