-- What the loops of `writing::commands::put_kind` keep.
use Prim.Native.Nat.{◌≤◌}
use mathlib.Core.Bool.{true}
use Rattle.state.specs.Cells.{cells_in}
use Rattle.finite.specs.Finite.{collect}
use Rattle.finite.specs.Writing.{Wrote}
use Rattle.format.specs.Writing.{item_bytes}
use Rattle.writing.proofs.commands.put_kind.Given as goal

abbrev pub invariant-loop-i : goal.invariant-loop-i
invariant-loop-i l = (l.i ≤ l.i-end) × Wrote l.initial.out l.out l.at l.place (collect l.i (λ _. true) (item_bytes l.d (cells_in l.rows.cells.now l.rows.issues.now) l.rows.tables.now l.b))
