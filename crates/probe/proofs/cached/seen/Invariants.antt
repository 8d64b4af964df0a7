-- What the loops of `probe::cached::seen` keep.
use Prim.Native.Nat.{◌-◌}
use mathlib.Core.Path.{◌≡◌}
use Rattle.finite.specs.Finite.{first_from}
use Rattle.model.specs.Cell.{Cell}
use Rattle.model.specs.Database.{Database, has}
use Rattle.model.specs.Runs.{marked}
use Rattle.state.specs.Meaning.{column_of}
use Rattle.catalog.specs.Catalog.{Links}
use Rattle.probe.proofs.SeekLaws.{Seeking}
use Rattle.probe.proofs.cached.seen.Given as goal

abbrev pub invariant-loop-r : goal.invariant-loop-r
invariant-loop-r l = (D : Database) → Links D l.index.catalog.now → (v : Cell) → l.initial.r ≡ first_from 512 (has D (column_of l.k) v) 0 → Seeking D (marked l.marks) (column_of l.k) v l.r

abbrev pub decreases-loop-r : goal.decreases-loop-r
decreases-loop-r l = 512 - l.r
