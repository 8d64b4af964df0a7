-- What the loops of `even::walking::round` keep.
use Rattle.even.proofs.KnotCode.{Rounded}
use Rattle.even.specs.Reading.{Laid}
use Rattle.model.specs.Scheme.{Scheme}
use Prim.Native.Nat.{◌≤◌}
use Prim.Native.Nat.{◌≤◌}
use Rattle.even.proofs.walking.round.Given as goal

abbrev pub invariant-loop-e : goal.invariant-loop-e
invariant-loop-e l = (l.e ≤ l.n) × ((S : Scheme) → Laid S l.n l.constraint → Rounded S l.old l.e l.costs)
