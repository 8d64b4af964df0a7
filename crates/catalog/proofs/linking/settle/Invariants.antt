-- What the loops of `catalog::linking::settle` keep.
use Prim.Native.Nat.{◌/◌, ◌%◌, ◌≤◌}
use lib.ListN.{get_or}
use Rattle.finite.proofs.Tables.{Upto}
use Rattle.state.specs.Cells.{cells_in}
use Rattle.state.specs.Meaning.{database_of}
use Rattle.catalog.specs.Catalog.{next_of}
use Rattle.catalog.proofs.linking.settle.Given as goal

abbrev pub invariant-loop-x : goal.invariant-loop-x
invariant-loop-x l = (l.x ≤ 4096) × Upto 0 4096 l.x (λ y. next_of (database_of (cells_in l.rows.cells.now l.rows.issues.now) l.rows.tables.now) (y / 8) (y % 8)) (λ y. get_or l.initial.next y 0) l.next
