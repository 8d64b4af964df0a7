-- What the loops of `load::queue::cached_levels` keep.
use Prim.Native.Nat.{◌≤◌}
use mathlib.Core.Bool.{cond}
use lib.ListN.{get_or}
use Rattle.finite.proofs.Tables.{Upto}
use Rattle.model.specs.Runs.{marked}
use Rattle.load.proofs.queue.cached_levels.Given as goal

abbrev pub invariant-loop-r : goal.invariant-loop-r
invariant-loop-r l = (l.r ≤ 512) × Upto 0 512 l.r (λ j. cond (marked l.marks j) 1 0) (λ j. get_or l.initial.levels j 0) l.levels
