-- `format::reading::store_cells` meets its contract: the cells passed are stored. Assumes nothing.
use native.Mathlib.Omega.{arith}
use Rattle.finite.proofs.Stores.{tabled_start, tabled-more, tabled-end}
use Rattle.format.proofs.reading.store_cells.Goals as goal

pub loop-c-init : goal.loop-c-init
loop-c-init c = (omega arith, tabled_start _ _ _)

pub loop-c-preserved : goal.loop-c-preserved
loop-c-preserved c = (omega arith, tabled-more _ _ _ _ _ _ c.loop-c.invariant.1 c.row_cell.ensures)

pub returns : goal.returns
returns c = tabled-end _ _ _ _ 8 _ c.loop-c.invariant.0 c.loop-c-test.false c.loop-c.invariant.1
