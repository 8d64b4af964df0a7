-- What the loops of `catalog::halving::turning_point` keep.
use Prim.Native.Nat.{ℕ, ◌≤◌, ◌-◌}
use mathlib.Core.Path.{◌≡◌}
use mathlib.Core.Bool.{Bool}
use Rattle.catalog.specs.Halving.{Falling, Halved}
use Rattle.catalog.proofs.halving.turning_point.Given as goal

abbrev pub invariant-loop-a : goal.invariant-loop-a
invariant-loop-a g l =
    (l.from ≤ l.a) × (l.e ≤ l.to)
    × ((p : ℕ → Bool) → ((k : ℕ) (b : Bool) → g.F.Fn.post l.holds (k, tt) b → b ≡ p k) → l.from ≤ l.to → Falling l.from l.to p → Halved l.from l.to p l.a l.e)

abbrev pub decreases-loop-a : goal.decreases-loop-a
decreases-loop-a g l = l.e - l.a
