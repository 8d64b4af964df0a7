-- `even::reaching::through_tables` meets its contract. Assumes nothing.
use Rattle.finite.proofs.Tables.{upto-start, upto-set, upto-end}
use mathlib.Core.Path.{refl}
use mathlib.Core.List.{[]}
use mathlib.Core.Path.{refl}
use native.Mathlib.Omega.{arith}
use Rattle.even.proofs.reaching.through_tables.Goals as goal

pub loop-t-init : goal.loop-t-init
loop-t-init c = (omega arith, upto-start [] 8 _ _ refl)

pub through_row-requires : goal.through_row-requires
through_row-requires c = c.requires

pub loop-t-preserved : goal.loop-t-preserved
loop-t-preserved c = (omega arith, upto-set _ _ _ _ _ _ c.loop-t.invariant.1 c.loop-t-test.true _ c.through_row.ensures)

pub returns : goal.returns
returns c = upto-end _ _ _ _ _ _ c.loop-t.invariant.1 c.loop-t.invariant.0 c.loop-t-test.false
