-- What the loops of `load::reached::Load::add_range` keep.
use Rattle.catalog.specs.Catalog.{Indexed}
use Prim.Native.Nat.{◌+◌, ◌≤◌}
use lib.ListN.{get_or}
use Rattle.catalog.specs.Spans.{plain_value}
use Rattle.finite.specs.Finite.{any}
use Rattle.load.specs.Grows.{Grows}
use Rattle.model.specs.Database.{Database, has}
use Rattle.state.specs.Meaning.{column_of}
use Rattle.load.proofs.reached.Load.add_range.Given as goal

abbrev pub invariant-loop-j : goal.invariant-loop-j
invariant-loop-j l = (l.j ≤ l.j-end) ×
    ((D : Database) → Indexed D l.index.catalog.now l.index.keys.now → Grows 2 (λ r. any l.j (λ x. has D (column_of l.k) (plain_value (get_or l.index.keys.now (l.from + x) 0)) r)) l.initial.self l.self)
