-- What the loops of `even::walking::walk_costs` keep.
use Rattle.even.specs.Walks.{Cheap}
use Rattle.state.specs.Meaning.{scheme_of}
use Prim.Native.Nat.{◌≤◌, ◌-◌}
use Prim.Native.Nat.{◌≤◌, ◌-◌}
use Rattle.even.proofs.walking.walk_costs.Given as goal

abbrev pub invariant-loop : goal.invariant-loop
invariant-loop l = (1 ≤ l.counter) × (l.counter ≤ 8) × Cheap (scheme_of l.d) (l.counter - 1) l.costs

abbrev pub decreases-loop : goal.decreases-loop
decreases-loop l = 8 - l.counter
