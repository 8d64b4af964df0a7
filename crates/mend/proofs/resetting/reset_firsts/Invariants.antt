-- What the loops of `mend::resetting::reset_firsts` keep.
use Prim.Native.Nat.{◌+◌, ◌*◌, ◌-◌}
use mathlib.Core.Path.{◌≡◌}
use mathlib.Core.Bool.{cond}
use lib.ListN.{get_or}
use Rattle.finite.specs.Finite.{first_from}
use Rattle.finite.proofs.Tables.{Upto}
use Rattle.model.specs.Cell.{Cell}
use Rattle.model.specs.Scheme as Model
use Rattle.model.specs.Database.{Database, has}
use Rattle.catalog.specs.Catalog.{part, Indexed}
use Rattle.mend.specs.Resetting.{Only}
use Rattle.catalog.specs.Hits.{Hit}
use Rattle.mend.proofs.resetting.reset_firsts.Given as goal

abbrev pub invariant-loop-s : goal.invariant-loop-s
invariant-loop-s l = Only l.i l.initial.catalog l.catalog
    × ((D : Database) (k : Model.Column) (v : Cell) → Indexed D l.initial.catalog l.keys → k.place ≡ l.c → l.initial.s ≡ first_from 512 (has D k v) 0
    → Hit (has D k v) l.s
    × Upto 0 512 l.s (λ x. cond (has D k v x) l.first (get_or l.initial.catalog (4096 + 512 * l.i + x) 0)) (λ x. get_or l.initial.catalog (4096 + 512 * l.i + x) 0) (part (4096 + 512 * l.i) 512 l.catalog))

abbrev pub decreases-loop-s : goal.decreases-loop-s
decreases-loop-s l = 512 - l.s
