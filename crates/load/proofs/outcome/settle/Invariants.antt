-- What the loops of `load::outcome::settle` keep.
use Prim.Native.Nat.{◌≤◌}
use mathlib.Core.Bool.{cond}
use lib.ListN.{get_or, length}
use Rattle.finite.proofs.Tables.{Upto}
use Rattle.model.specs.Rounds.{reached}
use Rattle.load.proofs.outcome.settle.Given as goal

abbrev pub invariant-loop-r : goal.invariant-loop-r
invariant-loop-r l = (l.r ≤ 512) × Upto 0 (length l.initial.marks) l.r (λ j. cond (reached l.levels j) 1 0) (λ j. get_or l.initial.marks j 0) l.marks
