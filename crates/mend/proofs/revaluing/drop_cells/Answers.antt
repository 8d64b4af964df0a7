-- `catalog::revaluing::drop_cells` meets its contract: the cells below c are out. Assumes nothing.
use native.Mathlib.Omega.{arith}
use Rattle.catalog.proofs.Rows.{table_is}
use Rattle.mend.proofs.DirectoryLaws.{goes-start, goes_end}
use Rattle.mend.proofs.revaluing.drop_cells.Goals as goal

pub loop-c-init : goal.loop-c-init
loop-c-init c = (omega arith, λ E w. goes-start E _ _ w _ (table_is _ _ _) c.requires.r_bound.2 _ _ _ c.requires.directory)

pub drop_cell-requires : goal.drop_cell-requires
drop_cell-requires c = let i = c.loop-c.invariant in
    let x = c.requires.without in
    record { r_bound = (c.requires.r_bound.0, omega arith, c.requires.r_bound.1, c.requires.r_bound.2); links = c.requires.links; without = (x.0, x.1, i.1 x.0 x.1) }

pub loop-c-preserved : goal.loop-c-preserved
loop-c-preserved c = let i = c.loop-c.invariant in
    (omega arith, λ E w. c.drop_cell.ensures E w (i.1 E w))

pub returns : goal.returns
returns c = λ E w. goes_end E _ _ w _ (table_is _ _ _) c.requires.r_bound.2 _ _ _ _ c.loop-c-test.false c.loop-c.invariant.0 (c.loop-c.invariant.1 E w)
