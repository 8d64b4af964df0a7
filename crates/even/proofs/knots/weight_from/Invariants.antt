-- What the loops of `even::knots::weight_from` keep.
use Rattle.even.specs.Walks.{Cheap, lowest, most_steps, weight_with}
use Rattle.even.specs.Reading.{Laid}
use Rattle.model.specs.Scheme.{Scheme}
use mathlib.Core.Path.{◌≡◌}
use Prim.Native.Nat.{◌≤◌}
use mathlib.Core.Path.{◌≡◌}
use Prim.Native.Nat.{◌≤◌}
use Rattle.even.proofs.knots.weight_from.Given as goal

abbrev pub invariant-loop-j : goal.invariant-loop-j
invariant-loop-j l = (l.j ≤ l.n) × ((S : Scheme) → Laid S l.n l.constraint → Cheap S most_steps l.costs → l.least ≡ lowest l.j (weight_with S l.i))
