-- `catalog::values::sink` meets its contract: the starts before place j are done. Assumes nothing.
use mathlib.Core.Path.{refl}
use native.Mathlib.Omega.{arith}
use Rattle.mend.proofs.ValueLaws.{mapped-start, mapped-turn, sunk-end}
use Rattle.mend.proofs.values.sink.Goals as goal

pub loop-j-init : goal.loop-j-init
loop-j-init c = (omega arith, omega arith, mapped-start _ _ _)

pub overflow_sub-starts : goal.overflow_sub-starts
overflow_sub-starts c = omega (arith, c.loop-j.invariant.2.outer c.loop-j.j (λ u w. omega arith), c.requires.2 c.loop-j.j (omega arith) (omega arith))

pub loop-j-preserved : goal.loop-j-preserved
loop-j-preserved c = (omega arith, omega arith, mapped-turn _ _ _ _ _ _ (omega arith) (omega arith) c.loop-j.invariant.2 refl)

pub returns : goal.returns
returns c = sunk-end _ _ _ _ c.loop-j-test.false c.requires.2 c.loop-j.invariant.2
