-- What the loops of `demanding::nearest::nearest_by_first` keep.
use Rattle.demanding.proofs.DemandingLaws.{Looked}
use Rattle.catalog.specs.Catalog.{Demands}
use Rattle.model.specs.Scheme.{Scheme}
use Rattle.model.specs.Database.{Database}
use lib.ListN.{get_or}
use Prim.Native.Nat.{◌≤◌, ◌<◌}
use lib.ListN.{get_or}
use Prim.Native.Nat.{◌≤◌, ◌<◌}
use Rattle.demanding.proofs.nearest.nearest_by_first.Given as goal

abbrev pub invariant-loop-row : goal.invariant-loop-row
invariant-loop-row l = (l.row-index ≤ l.fn.reached.count) × ((S : Scheme) (D : Database) → Demands S D l.catalog → l.i < S.constraints → Looked S D l.levels l.i (get_or l.fn.reached.rows l.row-index 0) l.best)
