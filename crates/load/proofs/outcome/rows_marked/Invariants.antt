-- What the loops of `load::outcome::rows_marked` keep.
use Prim.Native.Nat.{◌≤◌}
use mathlib.Core.Path.{◌≡◌}
use Rattle.finite.specs.Finite.{count}
use Rattle.model.specs.Runs.{marked}
use Rattle.load.proofs.outcome.rows_marked.Given as goal

abbrev pub invariant-loop-mark : goal.invariant-loop-mark
invariant-loop-mark l = (l.mark-index ≤ 512) × (l.n ≤ l.mark-index) × (l.n ≡ count l.mark-index (marked l.marks))
