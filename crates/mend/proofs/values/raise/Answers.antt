-- `catalog::values::raise` meets its contract: the starts before place j are done. Assumes nothing.
use mathlib.Core.Path.{refl}
use native.Mathlib.Omega.{arith}
use Rattle.mend.proofs.ValueLaws.{mapped-start, mapped-turn, raised-end}
use Rattle.mend.proofs.values.raise.Goals as goal

pub loop-j-init : goal.loop-j-init
loop-j-init c = (omega arith, omega arith, mapped-start _ _ _)

pub overflow_add-starts : goal.overflow_add-starts
overflow_add-starts c = omega (arith, c.loop-j.invariant.2.outer c.loop-j.j (λ u w. omega arith), c.requires.2 c.loop-j.j (omega arith))

pub loop-j-preserved : goal.loop-j-preserved
loop-j-preserved c = (omega arith, omega arith, mapped-turn _ _ _ _ _ _ (omega arith) (omega arith) c.loop-j.invariant.2 refl)

pub returns : goal.returns
returns c = raised-end _ _ _ _ c.loop-j-test.false c.loop-j.invariant.2
