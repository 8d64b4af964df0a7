-- What the loops of `demanding::nearest::spread` keep.
use lib.ListN.{length}
use Rattle.demanding.proofs.DemandingLaws.{Handed}
use Rattle.catalog.specs.Catalog.{Links}
use Rattle.model.specs.Database.{Database, has}
use Rattle.model.specs.Scheme.{Column}
use Rattle.model.specs.Cell.{Cell}
use Rattle.finite.specs.Finite.{first_from}
use mathlib.Core.Path.{◌≡◌}
use Prim.Native.Nat.{◌-◌}
use lib.ListN.{length}
use mathlib.Core.Path.{◌≡◌}
use Prim.Native.Nat.{◌-◌}
use Rattle.demanding.proofs.nearest.spread.Given as goal

abbrev pub invariant-loop-t : goal.invariant-loop-t
invariant-loop-t l = (D : Database) → Links D l.catalog → (k : Column) (v : Cell) → k.place ≡ l.place → l.from ≡ first_from 512 (has D k v) 0 → length l.initial.near ≡ 8192 → Handed (has D k v) l.b l.a l.initial.near l.t l.near

abbrev pub decreases-loop-t : goal.decreases-loop-t
decreases-loop-t l = 512 - l.t
