-- What the loops of `even::knots::knot_weight` keep.
use Rattle.even.specs.Walks.{lowest, weight_from}
use Rattle.state.specs.Meaning.{scheme_of}
use mathlib.Core.Path.{◌≡◌}
use Prim.Native.Nat.{◌≤◌}
use mathlib.Core.Path.{◌≡◌}
use Prim.Native.Nat.{◌≤◌}
use Rattle.even.proofs.knots.knot_weight.Given as goal

abbrev pub invariant-loop-i : goal.invariant-loop-i
invariant-loop-i l = (l.i ≤ l.n) × (l.least ≡ lowest l.i (weight_from (scheme_of l.d)))
