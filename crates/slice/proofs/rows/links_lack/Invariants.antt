-- What the loops of `slice::rows::links_lack` keep.
use mathlib.Core.Path.{◌≡◌}
use Rattle.model.specs.Missing as Model
use Rattle.state.specs.Cells.{cells_in}
use Rattle.state.specs.Meaning.{database_of, scheme_of}
use Rattle.catalog.specs.Catalog.{Demands}
use Rattle.slice.specs.Fetches.{fetches_in}
use Prim.Native.Nat.{◌≤◌}
use Rattle.slice.proofs.rows.links_lack.Given as goal

abbrev pub invariant-loop-i : goal.invariant-loop-i
invariant-loop-i l = (l.i ≤ l.m) ×
    (Demands (scheme_of l.d) (database_of (cells_in l.rows.cells.now l.rows.issues.now) l.rows.tables.now) l.catalog →
    Model.lack_below l.i (Model.link_lack (scheme_of l.d) (database_of (cells_in l.rows.cells.now l.rows.issues.now) l.rows.tables.now) (fetches_in l.words l.n) l.r) ≡ Model.nothing)
