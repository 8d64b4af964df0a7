-- What the loops of `mend::relinking::drop_links` keep.
use Prim.Native.Nat.{◌≤◌}
use Rattle.model.specs.Database.{Database}
use Rattle.state.specs.Cells.{cells_in}
use Rattle.state.specs.Meaning.{database_of}
use Rattle.catalog.specs.Catalog.{heads_in, starts_in, Directory, Links}
use Rattle.mend.specs.Changing.{Without}
use Rattle.mend.proofs.RelinkLaws.{Passing, Kept}
use Rattle.mend.proofs.relinking.drop_links.Given as goal

abbrev pub invariant-loop-c : goal.invariant-loop-c
invariant-loop-c l = (l.c ≤ 8) × Kept l.initial.catalog l.catalog
    × ((E : Database) → Without E (database_of (cells_in l.rows.cells.now l.rows.issues.now) l.rows.tables.now) l.r → Directory E l.keys (heads_in l.initial.catalog) (starts_in l.initial.catalog) → Links (database_of (cells_in l.rows.cells.now l.rows.issues.now) l.rows.tables.now) l.initial.catalog
    → Passing (database_of (cells_in l.rows.cells.now l.rows.issues.now) l.rows.tables.now) E l.c l.initial.catalog l.catalog)
