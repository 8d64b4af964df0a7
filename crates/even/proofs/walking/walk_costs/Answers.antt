-- `even::walking::walk_costs` meets its contract. Assumes nothing.
use Rattle.even.proofs.KnotCode.{cheap-next, cheap-end}
use Rattle.state.specs.Meaning.{scheme_of}
use native.Mathlib.Omega.{arith}
use Rattle.even.proofs.walking.walk_costs.Goals as goal

pub loop-init : goal.loop-init
loop-init c = (omega arith, omega arith, c.no_steps.ensures (scheme_of c.args.d))

pub round-requires : goal.round-requires
round-requires c = (c.requires, (_, c.loop.invariant.2))

pub loop-preserved : goal.loop-preserved
loop-preserved c = let v = c.loop.invariant in (omega arith, omega arith, cheap-next _ _ _ v.0 (c.round.ensures _ v.2))

pub returns : goal.returns
returns c = let v = c.loop.invariant in cheap-end _ _ _ v.1 c.loop-test.false v.2
