-- What the loops of `opener::giving::mark_having` keep.
use Rattle.opener.proofs.MarkingLaws.{Marking}
use Rattle.catalog.specs.Catalog.{Indexed}
use Rattle.state.specs.Meaning.{column_of}
use Rattle.model.specs.Database.{Database, has}
use Rattle.model.specs.Cell.{Cell}
use Rattle.finite.specs.Finite.{first_from}
use lib.ListN.{length}
use mathlib.Core.Path.{◌≡◌}
use Prim.Native.Nat.{◌-◌}
use Rattle.opener.proofs.giving.mark_having.Given as goal

abbrev pub invariant-loop-r : goal.invariant-loop-r
invariant-loop-r l = (D : Database) → Indexed D l.index.catalog.now l.index.keys.now → (v : Cell) → l.initial.r ≡ first_from 512 (has D (column_of l.k) v) 0 → length l.initial.seed ≡ 512 → Marking (has D (column_of l.k) v) l.initial.seed l.r l.seed

abbrev pub decreases-loop-r : goal.decreases-loop-r
decreases-loop-r l = 512 - l.r
