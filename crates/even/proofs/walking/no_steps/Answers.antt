-- `even::walking::no_steps` meets its contract. Assumes nothing.
use Rattle.even.proofs.KnotCode.{none-started, more-started, all-started}
use native.Mathlib.Omega.{arith}
use Rattle.even.proofs.walking.no_steps.Goals as goal

pub loop-t-init : goal.loop-t-init
loop-t-init c = (omega arith, none-started)

pub loop-t-preserved : goal.loop-t-preserved
loop-t-preserved c = (omega arith, more-started _ _ c.loop-t.invariant.1 c.loop-t-test.true)

pub returns : goal.returns
returns c = λ S. all-started S _ _ c.loop-t.invariant.1 c.loop-t.invariant.0 c.loop-t-test.false
