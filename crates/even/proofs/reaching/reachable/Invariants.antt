-- What the loops of `even::reaching::reachable` keep.
use Rattle.model.specs.Even.{linked, reached_by, square}
use mathlib.Core.Path.{◌≡◌}
use Prim.Native.Nat.{◌≤◌}
use Rattle.model.specs.Scheme.{Scheme}
use Rattle.even.proofs.reaching.reachable.Given as goal

abbrev pub invariant-loop-k : goal.invariant-loop-k
invariant-loop-k l = (l.k ≤ 8) × ((S : Scheme) → l.initial.m ≡ square (linked S) → l.m ≡ square (reached_by S l.k))
