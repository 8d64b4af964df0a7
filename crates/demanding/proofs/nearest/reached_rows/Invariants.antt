-- What the loops of `demanding::nearest::reached_rows` keep.
use Rattle.demanding.proofs.DemandingLaws.{Listing}
use Prim.Native.Nat.{◌≤◌}
use Prim.Native.Nat.{◌≤◌}
use Rattle.demanding.proofs.nearest.reached_rows.Given as goal

abbrev pub invariant-loop-s : goal.invariant-loop-s
invariant-loop-s l = (l.s ≤ 512) × Listing l.levels l.s l.m l.rows
