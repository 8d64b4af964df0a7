-- What the loops of `opener::giving::source_rows` keep.
use Rattle.catalog.specs.Catalog.{Indexed}
use Rattle.state.specs.Meaning.{cell_of, column_of, constraint_of}
use Rattle.state.specs.Design.{constraint_at}
use Rattle.model.specs.Database.{Database, has}
use Rattle.model.specs.Scheme.{same_column}
use Rattle.finite.specs.Finite.{any}
use lib.ListN.{length, get_or}
use mathlib.Core.Bool.{false, ◌&&◌}
use mathlib.Core.Path.{◌≡◌}
use Prim.Native.Nat.{ℕ, ◌≤◌, ◌<◌}
use Rattle.opener.proofs.giving.source_rows.Given as goal

abbrev pub invariant-loop-i : goal.invariant-loop-i
invariant-loop-i l = (l.i ≤ l.i-end) × (l.i-end ≡ l.d.constraints) × (length l.seed ≡ 512) ×
    ((D : Database) → Indexed D l.index.catalog.now l.index.keys.now → (r : ℕ) → r < 512 → get_or l.seed r false ≡
    any l.i (λ a. same_column (constraint_of (constraint_at l.d a)).target (column_of l.k) && has D (constraint_of (constraint_at l.d a)).source (cell_of l.v) r))
