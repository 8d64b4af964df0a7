-- What the loops of `mend::revaluing::drop_cells` keep.
use Prim.Native.Nat.{◌+◌, ◌*◌, ◌≤◌}
use lib.ListN.{get_or}
use Rattle.model.specs.Database.{Database}
use Rattle.state.specs.Cells.{cells_in}
use Rattle.state.specs.Meaning.{database_of}
use Rattle.mend.specs.Changing.{Without}
use Rattle.mend.specs.Values.{Changing}
use Rattle.mend.proofs.revaluing.drop_cells.Given as goal

abbrev pub invariant-loop-c : goal.invariant-loop-c
invariant-loop-c l = (l.c ≤ 8) × ((E : Database) → Without E (database_of (cells_in l.rows.cells.now l.rows.issues.now) l.rows.tables.now) l.r → Changing (database_of (cells_in l.rows.cells.now l.rows.issues.now) l.rows.tables.now) E (8 * get_or l.rows.tables.now l.r 0 + l.c) l.keys l.heads l.starts)
