-- What the loops of `catalog::firsts::make_firsts` keep.
use Prim.Native.Nat.{◌*◌, ◌/◌, ◌%◌, ◌≤◌}
use Rattle.finite.proofs.Tables.{Upto}
use Rattle.state.specs.Cells.{cells_in}
use Rattle.state.specs.Meaning.{database_of, scheme_of}
use Rattle.catalog.specs.Catalog.{demanded_first}
use Rattle.catalog.proofs.firsts.make_firsts.Given as goal

abbrev pub invariant-loop-i : goal.invariant-loop-i
invariant-loop-i l = (l.i ≤ l.d.constraints)
    × Upto 0 8192 (512 * l.i) (λ y. demanded_first (scheme_of l.d) (database_of (cells_in l.rows.cells.now l.rows.issues.now) l.rows.tables.now) (y / 512) (y % 512)) (λ _. 512) l.first
