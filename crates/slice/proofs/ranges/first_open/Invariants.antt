-- What the loops of `slice::ranges::first_open` keep.
use Prim.Native.Nat.{◌+◌, ◌-◌}
use mathlib.Core.Path.{◌≡◌}
use Rattle.model.specs.Database.{Database}
use Rattle.model.specs.Missing as Model
use Rattle.state.specs.Meaning.{column_of, scheme_of}
use Rattle.catalog.specs.Catalog.{Indexed}
use Rattle.slice.specs.Fetches.{fetches_in}
use Rattle.slice.proofs.ranges.first_open.Given as goal

abbrev pub invariant-loop-x : goal.invariant-loop-x
invariant-loop-x l = (D : Database) → Indexed D l.index.catalog.now l.index.keys.now → Model.first_open (scheme_of l.d) D (fetches_in l.words l.n) (column_of l.k) l.high l.low ≡ Model.first_open (scheme_of l.d) D (fetches_in l.words l.n) (column_of l.k) l.high l.x

abbrev pub decreases-loop-x : goal.decreases-loop-x
decreases-loop-x l = l.high + 1 - l.x
