-- What the loops of `even::reaching::through_row` keep.
use Rattle.finite.proofs.Tables.{Upto}
use Prim.Native.Nat.{◌≤◌}
use lib.ListN.{get_or}
use mathlib.Core.Bool.{false, ◌&&◌, ◌||◌}
use lib.ListN.{get_or}
use Prim.Native.Nat.{◌≤◌}
use Rattle.even.proofs.reaching.through_row.Given as goal

abbrev pub invariant-loop-u : goal.invariant-loop-u
invariant-loop-u l = (l.u ≤ 8) × Upto false 8 l.u (λ x. get_or l.own x false || (l.there && get_or l.way x false)) (λ x. get_or l.initial.row x false) l.row
