-- `even::knots::weight_with` meets its contract. Assumes nothing.
use Rattle.even.proofs.KnotCode.{turn-none, turn-same, turn-off, pair_fits}
use Rattle.state.specs.Meaning.{constraint_of}
use Prim.Native.Nat.{◌+◌}
use mathlib.Core.Path.{ap}
use mathlib.Core.Path.{ap}
use native.Mathlib.Omega.{arith}
use Rattle.even.proofs.knots.weight_with.Goals as goal

pub returns-then-a-b : goal.returns-then-a-b
returns-then-a-b c = turn-none (constraint_of c.args.a) (constraint_of c.args.b) _ c.if-a-b.true

pub returns-then-a-b-2 : goal.returns-then-a-b-2
returns-then-a-b-2 c = turn-same (constraint_of c.args.a) (constraint_of c.args.b) _ c.if-a-b-2.true

pub overflow_add-result : goal.overflow_add-result
overflow_add-result c = let s = c in omega (arith, c.pair_weight.ensures, pair_fits _ _ s.requires.0 s.requires.1, s.requires.2)

pub returns : goal.returns
returns c = turn-off (constraint_of c.args.a) (constraint_of c.args.b) _ c.if-a-b.false c.if-a-b-2.false _ (ap (λ x. x + c.args.back) c.pair_weight.ensures)
