-- What the loops of `format::reading::store_cells` keep.
use Prim.Native.Nat.{◌*◌, ◌≤◌}
use Rattle.finite.proofs.Stores.{Tabled}
use Rattle.command.specs.Commands.{row_cell_at}
use Rattle.format.proofs.reading.store_cells.Given as goal

abbrev pub invariant-loop-c : goal.invariant-loop-c
invariant-loop-c l = (l.c ≤ 8) × Tabled (row_cell_at l.script l.at) l.initial.cells (8 * l.r) l.c l.cells
