-- What the loops of `mend::resetting::demands_in` keep.
use Prim.Native.Nat.{◌≤◌}
use mathlib.Core.Path.{◌≡◌}
use Rattle.model.specs.Database.{Database}
use Rattle.state.specs.Cells.{cells_in}
use Rattle.state.specs.Meaning.{database_of, scheme_of}
use Rattle.catalog.specs.Catalog.{firsts, first_in}
use Rattle.mend.specs.Changing.{Without}
use Rattle.mend.proofs.ResetLaws.{Turning, Beside}
use Rattle.mend.proofs.resetting.demands_in.Given as goal

abbrev pub invariant-loop-i : goal.invariant-loop-i
invariant-loop-i l = (l.i ≤ l.d.constraints) × Beside l.initial.catalog l.catalog
    × ((E : Database) → Without E (database_of (cells_in l.rows.cells.now l.rows.issues.now) l.rows.tables.now) l.r → first_in l.initial.catalog ≡ firsts (scheme_of l.d) E → Turning (scheme_of l.d) E (database_of (cells_in l.rows.cells.now l.rows.issues.now) l.rows.tables.now) l.i l.catalog)
