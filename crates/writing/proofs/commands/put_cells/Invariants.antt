-- What the loops of `writing::commands::put_cells` keep.
use Prim.Native.Nat.{◌+◌, ◌*◌, ◌≤◌}
use lib.ListN.{get_or}
use Rattle.finite.proofs.Stores.{Pieces}
use Rattle.command.specs.Bytes.{u32_bytes}
use Rattle.writing.proofs.commands.put_cells.Given as goal

abbrev pub invariant-loop-c : goal.invariant-loop-c
invariant-loop-c l = (l.c ≤ 8) × Pieces (λ j. u32_bytes (get_or l.cells (8 * l.r + j) 0)) l.initial.out l.at l.c l.out
