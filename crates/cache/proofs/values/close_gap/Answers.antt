use Prim.Native.Nat.{ℕ, ◌-◌}
use mathlib.Core.Path.{ap}
use Rattle.state.proofs.HeldWords.{words-sized, holds-whole}
use Rattle.cache.proofs.HeldShifts.{shifting-start, shifting-more, shifting-end}
use mathlib.Core.Path.{ap}
use Prim.Native.Nat.{ℕ, ◌-◌}
use native.Mathlib.Omega.{arith}
use Rattle.cache.proofs.values.close_gap.Goals as goal

pub loop-i-init : goal.loop-i-init
loop-i-init c = let s = c in shifting-start s.args.held.now s.args.gap s.requires.3 s.requires.2

pub overflow_add-i : goal.overflow_add-i
overflow_add-i c = omega (arith, c.loop-i-test.true)

pub value_at-requires : goal.value_at-requires
value_at-requires c = omega (arith, c.loop-i-test.true)

pub set_value-requires : goal.set_value-requires
set_value-requires c = (omega (arith, c.loop-i-test.true), c.loop-i.invariant.whole)

pub overflow_step-i : goal.overflow_step-i
overflow_step-i c = omega (arith, c.loop-i-test.true)

pub loop-i-smaller : goal.loop-i-smaller
loop-i-smaller c = omega (arith, c.loop-i-test.true)

pub loop-i-preserved : goal.loop-i-preserved
loop-i-preserved c = shifting-more _ _ _ _ c.loop-i.invariant _ _ c.loop-i-test.true c.value_at.ensures c.set_value.ensures

pub set_value-requires-2 : goal.set_value-requires-2
set_value-requires-2 c = (omega arith, c.loop-i.invariant.whole)

pub overflow_sub-n : goal.overflow_sub-n
overflow_sub-n c = omega (arith, c.requires.0, c.value_count-n.ensures)

pub set_count-requires : goal.set_count-requires
set_count-requires c = (omega (arith, c.requires.1, c.value_count-n.ensures), holds-whole _ _ c.set_value-2.ensures)

pub returns : goal.returns
returns c = let s = c in shifting-end _ _ _ _ c.loop-i.invariant (words-sized s.args.held.now).values c.loop-i-test.false _ _ _ (ap (λ (n : ℕ). n - 1) c.value_count-n.ensures) c.set_value-2.ensures c.set_count.ensures
