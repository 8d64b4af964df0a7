-- What the loops of `format::reading::read_commands` keep.
use Prim.Native.Nat.{suc, ◌-◌}
use lib.ListN.{length}
use Rattle.state.specs.Cells.{cells_in}
use Rattle.state.specs.Design.{empty_design}
use Rattle.format.specs.Reading.{draft, read_from}
use Rattle.format.proofs.FirstPass.{Along}
use Rattle.format.proofs.reading.read_commands.Given as goal

abbrev pub invariant-loop-at : goal.invariant-loop-at
invariant-loop-at l = Along l.script (read_from (suc (length l.script)) l.script (draft empty_design 0 (cells_in l.initial.cells l.initial.issues) l.initial.tables) 0) (draft l.d.design l.d.rows (cells_in l.cells l.issues) l.tables) l.at

abbrev pub decreases-loop-at : goal.decreases-loop-at
decreases-loop-at l = length l.script - l.at
