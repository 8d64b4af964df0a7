-- `even::reaching::through_row` meets its contract. Assumes nothing.
use Rattle.finite.proofs.Tables.{upto-start, upto-set, upto-end}
use mathlib.Core.Path.{refl}
use mathlib.Core.Bool.{false}
use mathlib.Core.Path.{refl}
use native.Mathlib.Omega.{arith}
use Rattle.even.proofs.reaching.through_row.Goals as goal

pub loop-u-init : goal.loop-u-init
loop-u-init c = (omega arith, upto-start false 8 _ _ refl)

pub loop-u-preserved : goal.loop-u-preserved
loop-u-preserved c = (omega arith, upto-set _ _ _ _ _ _ c.loop-u.invariant.1 c.loop-u-test.true _ c.is_through.ensures)

pub returns : goal.returns
returns c = upto-end _ _ _ _ _ _ c.loop-u.invariant.1 c.loop-u.invariant.0 c.loop-u-test.false
