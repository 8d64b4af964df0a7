-- `even::knots::knot_weight` meets its contract. Assumes nothing.
use Rattle.even.proofs.KnotCode.{lowest-none, lowest-more, knot-end}
use native.Mathlib.Omega.{arith}
use Rattle.even.proofs.knots.knot_weight.Goals as goal

pub loop-i-init : goal.loop-i-init
loop-i-init c = (omega arith, lowest-none _)

pub weight_from-w-requires : goal.weight_from-w-requires
weight_from-w-requires c = let s = c in (s.requires, omega (arith, c.loop-i-test.true, s.requires.constraints), c.walk_costs.ensures)

pub loop-i-preserved : goal.loop-i-preserved
loop-i-preserved c = (omega arith, lowest-more _ _ c.loop-i.invariant.1 c.weight_from-w.ensures c.min-least.ensures)

pub returns : goal.returns
returns c = knot-end c.args.d _ _ c.loop-i.invariant.0 c.loop-i-test.false c.loop-i.invariant.1
