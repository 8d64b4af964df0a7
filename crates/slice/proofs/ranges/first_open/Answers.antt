-- `slice::ranges::first_open` meets its contract. Assumes nothing.
use mathlib.Core.Path.{refl, sym, subst, ◌∙◌}
use Prim.Native.Nat.{ℕ, ◌<◌}
use Rattle.slice.proofs.LackLaws.{walk-hit, walk-on, walk-past}
use native.Mathlib.Omega.{arith}
use Rattle.slice.proofs.ranges.first_open.Goals as goal

pub loop-x-init : goal.loop-x-init
loop-x-init c = λ D i. refl

pub returns-in_default : goal.returns-in_default
returns-in_default c = λ D i. (omega (arith, c.loop-x-test.true), walk-hit _ D _ _ c.loop-x.x c.args.high (omega (arith, c.loop-x-test.true)) (c.in_default.ensures.1 D i) ∙ sym (c.loop-x.invariant D i))

pub loop-x-preserved : goal.loop-x-preserved
loop-x-preserved c = λ D i. c.loop-x.invariant D i ∙ walk-on _ D _ _ c.loop-x.x c.args.high _ (omega (arith, c.loop-x-test.true)) (c.in-Some.ensures.1 D i)

pub returns : goal.returns
returns c = λ D i. subst (λ (m : ℕ). c.args.high < m) (sym (c.loop-x.invariant D i)) (walk-past _ D _ _ c.loop-x.x c.args.high c.loop-x-test.false)
