-- `writing::commands::put_cells` meets its contract: the cells passed are stored. Assumes nothing.
use native.Mathlib.Omega.{arith}
use Rattle.finite.proofs.Stores.{pieces-start, pieces_more, pieces_end}
use Rattle.format.specs.Writing.{cells_bytes}
use Rattle.format.proofs.Lengths.{length-u32}
use Rattle.writing.proofs.commands.put_cells.Goals as goal

pub loop-c-init : goal.loop-c-init
loop-c-init c = (omega arith, pieces-start _ _ _)

pub loop-c-preserved : goal.loop-c-preserved
loop-c-preserved c = (omega arith, pieces_more _ _ _ 4 (λ j. length-u32 _) _ _ _ c.loop-c.invariant.1 c.put_u32.ensures)

pub returns : goal.returns
unfolding cells_bytes
returns c = λ issues. pieces_end _ _ _ _ 8 _ c.loop-c.invariant.0 c.loop-c-test.false c.loop-c.invariant.1
