-- `catalog::revaluing::put_cells` meets its contract: the cells below c are in. Assumes nothing.
use native.Mathlib.Omega.{arith}
use Rattle.catalog.proofs.Rows.{table_is}
use Rattle.mend.proofs.DirectoryLaws.{comes-start, comes-end}
use Rattle.mend.proofs.revaluing.put_cells.Goals as goal

pub loop-c-init : goal.loop-c-init
loop-c-init c = (omega arith, omega arith, λ E w d. comes-start E _ _ w _ (table_is _ _ _) c.requires.r_bound.2 _ _ _ d)

pub put_cell-requires : goal.put_cell-requires
put_cell-requires c = let i = c.loop-c.invariant in
    record { r_bound = (c.requires.r_bound.0, omega arith, c.requires.r_bound.1, c.requires.r_bound.2, omega arith); without = (c.requires.without.0, c.requires.without.1, i.2 c.requires.without.0 c.requires.without.1 c.requires.without.2) }

pub loop-c-preserved : goal.loop-c-preserved
loop-c-preserved c = let i = c.loop-c.invariant in
    (omega arith, omega (arith, c.put_cell.ensures.0), λ E w d. c.put_cell.ensures.1 E w (i.2 E w d))

pub returns : goal.returns
returns c = λ E w d. comes-end E _ _ w _ (table_is _ _ _) c.requires.r_bound.2 _ _ _ _ c.loop-c-test.false c.loop-c.invariant.0 (c.loop-c.invariant.2 E w d)
