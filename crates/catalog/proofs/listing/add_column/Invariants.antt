-- What the loops of `catalog::listing::add_column` keep.
use Prim.Native.Nat.{◌≤◌}
use Rattle.state.specs.Cells.{cells_in}
use Rattle.state.specs.Meaning.{column_of, database_of}
use Rattle.catalog.specs.Listing.{Added}
use Rattle.catalog.proofs.listing.add_column.Given as goal

abbrev pub invariant-loop-r : goal.invariant-loop-r
invariant-loop-r l = (l.r ≤ 512) × Added (database_of (cells_in l.rows.cells.now l.rows.issues.now) l.rows.tables.now) (column_of l.k) l.r l.from l.initial.keys l.initial.heads l.initial.next l.m l.keys l.heads l.next
