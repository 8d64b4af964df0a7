-- What the loops of `mend::values::sink` keep.
use Prim.Native.Nat.{◌-◌, ◌≤◌, ◌<◌}
use Rattle.mend.proofs.ValueLaws.{Mapped}
use Rattle.mend.proofs.values.sink.Given as goal

abbrev pub invariant-loop-j : goal.invariant-loop-j
invariant-loop-j l = (l.n < l.j) × (l.j ≤ 65) × Mapped (λ z. z - 1) l.n l.j l.initial.starts l.starts
