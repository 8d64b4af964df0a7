-- What the loops of `reason::nearing::list_levels` keep.
use Prim.Native.Nat.{◌≤◌}
use Rattle.reason.proofs.LinkLaws.{RankedFrom}
use Rattle.reason.proofs.nearing.list_levels.Given as goal

abbrev pub invariant-loop-s : goal.invariant-loop-s
invariant-loop-s l = (l.s ≤ 512) × RankedFrom l.levels l.s l.heads l.next
