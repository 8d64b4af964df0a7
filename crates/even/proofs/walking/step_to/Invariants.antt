-- What the loops of `even::walking::step_to` keep.
use Prim.Native.Nat.{◌≤◌}
use Rattle.even.specs.Walks.{Stepped}
use Prim.Native.Nat.{◌≤◌}
use Rattle.even.proofs.walking.step_to.Given as goal

abbrev pub invariant-loop-u : goal.invariant-loop-u
invariant-loop-u l = (l.u ≤ 8) × Stepped l.costs l.initial.next l.s l.t l.w l.u l.next
