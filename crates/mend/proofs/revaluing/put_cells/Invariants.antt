-- What the loops of `mend::revaluing::put_cells` keep.
use Prim.Native.Nat.{◌+◌, ◌*◌, ◌≤◌}
use lib.ListN.{get_or}
use Rattle.model.specs.Database.{Database}
use Rattle.state.specs.Cells.{cells_in}
use Rattle.state.specs.Meaning.{database_of}
use Rattle.catalog.specs.Catalog.{Directory}
use Rattle.mend.specs.Changing.{Without}
use Rattle.mend.specs.Values.{Changing}
use Rattle.mend.proofs.revaluing.put_cells.Given as goal

abbrev pub invariant-loop-c : goal.invariant-loop-c
invariant-loop-c l = (l.c ≤ 8) × (get_or l.starts 64 0 ≤ get_or l.initial.starts 64 0 + l.c)
    × ((E : Database) → Without E (database_of (cells_in l.rows.cells.now l.rows.issues.now) l.rows.tables.now) l.r → Directory E l.initial.keys l.initial.heads l.initial.starts → Changing E (database_of (cells_in l.rows.cells.now l.rows.issues.now) l.rows.tables.now) (8 * get_or l.rows.tables.now l.r 0 + l.c) l.keys l.heads l.starts)
