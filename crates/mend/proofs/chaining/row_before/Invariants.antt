-- What the loops of `mend::chaining::row_before` keep.
use Prim.Native.Nat.{◌+◌, ◌*◌, ◌-◌, ◌<◌}
use mathlib.Core.Path.{◌≡◌}
use mathlib.Core.Bool.{true}
use lib.ListN.{get_or}
use Rattle.finite.specs.Finite.{first_from}
use Rattle.model.specs.Cell.{Cell}
use Rattle.model.specs.Scheme as Model
use Rattle.model.specs.Database.{Database, has}
use Rattle.mend.specs.Changing.{Chained}
use Rattle.mend.proofs.chaining.row_before.Given as goal

abbrev pub invariant-loop-n : goal.invariant-loop-n
invariant-loop-n l = (l.p < l.r) × (l.n ≡ get_or l.catalog (8 * l.p + l.c) 0)
    × ((D : Database) (k : Model.Column) (v : Cell) → Chained D l.c l.catalog → k.place ≡ l.c → l.h ≡ first_from 512 (has D k v) 0 → has D k v l.p ≡ true)

abbrev pub decreases-loop-n : goal.decreases-loop-n
decreases-loop-n l = l.r - l.p
