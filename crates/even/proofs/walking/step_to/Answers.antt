-- `even::walking::step_to` meets its contract. Assumes nothing.
use Prim.Native.Nat.{◌+◌, ◌*◌}
use Rattle.even.proofs.KnotCode.{step_start, step-more, step_end}
use native.Mathlib.Omega.{arith}
use Rattle.even.proofs.walking.step_to.Goals as goal

pub loop-u-init : goal.loop-u-init
loop-u-init c = (omega arith, step_start _ _ _ _ _)

pub overflow_add-onward-in-loop-u : goal.overflow_add-onward-in-loop-u
overflow_add-onward-in-loop-u c = let s = c in omega (arith, s.requires.5 (8 * s.args.t + c.loop-u.u))

pub loop-u-preserved : goal.loop-u-preserved
loop-u-preserved c = let s = c in (omega arith, step-more _ _ _ _ _ _ _ c.loop-u.invariant.1 c.loop-u-test.true s.requires.0 s.requires.4 _ c.min.ensures)

pub returns : goal.returns
returns c = step_end _ _ _ _ _ _ _ c.loop-u.invariant.1 c.loop-u.invariant.0 c.loop-u-test.false
