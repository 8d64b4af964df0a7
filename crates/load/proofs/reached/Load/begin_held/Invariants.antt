-- What the loops of `load::reached::Load::begin_held` keep.
use Prim.Native.Nat.{◌≤◌}
use Rattle.finite.specs.Finite.{any}
use Rattle.model.specs.Database.{Database, has}
use Rattle.state.specs.Design.{filling_at}
use Rattle.state.specs.Held.{held_at}
use Rattle.state.specs.HeldWords.{words_held}
use Rattle.state.specs.Meaning.{cell_of, column_of}
use Rattle.catalog.specs.Catalog.{Indexed}
use Rattle.load.specs.Grows.{Grows}
use Rattle.load.proofs.reached.Load.begin_held.Given as goal

abbrev pub invariant-loop-i : goal.invariant-loop-i
invariant-loop-i l = (l.i ≤ l.i-end) ×
    ((D : Database) → Indexed D l.index.catalog.now l.index.keys.now →
    Grows 2
    (λ r. any l.i (λ j. has D (column_of (filling_at l.d (held_at (words_held l.held) j).pair.filling).column) (cell_of (held_at (words_held l.held) j).pair.value) r)) l.initial.self l.self)
