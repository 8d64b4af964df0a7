-- `catalog::halving::turning_point` meets its contract. Assumes nothing.
use native.Mathlib.Omega.{arith}
use mathlib.Core.Path.{sym, ◌∙◌}
use Rattle.catalog.proofs.HalvingLaws.{halved-right, halved-left}
use Rattle.catalog.proofs.halving.turning_point.Goals as goal

pub loop-a-preserved-then-holds : goal.loop-a-preserved-then-holds
loop-a-preserved-then-holds g c = (omega (arith, c.loop-a.invariant.0, c.loop-a-test.true), c.loop-a.invariant.1, λ p h l f. halved-right _ _ p _ _ _ f (c.loop-a.invariant.2 p h l f) (omega arith) (omega arith) (sym (h _ _ c.holds.ensures) ∙ c.if-holds.true))

pub loop-a-preserved : goal.loop-a-preserved
loop-a-preserved g c = (c.loop-a.invariant.0, omega (arith, c.loop-a.invariant.1, c.loop-a-test.true), λ p h l f. halved-left _ _ p _ _ _ f (c.loop-a.invariant.2 p h l f) (omega arith) (omega arith) (sym (h _ _ c.holds.ensures) ∙ c.if-holds.false))
