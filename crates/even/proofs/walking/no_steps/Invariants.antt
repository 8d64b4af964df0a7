-- What the loops of `even::walking::no_steps` keep.
use Rattle.even.proofs.KnotCode.{Started}
use Prim.Native.Nat.{◌≤◌}
use Prim.Native.Nat.{◌≤◌}
use Rattle.even.proofs.walking.no_steps.Given as goal

abbrev pub invariant-loop-t : goal.invariant-loop-t
invariant-loop-t l = (l.t ≤ 8) × Started l.t l.costs
