-- What the loops of `even::reaching::through_tables` keep.
use Rattle.even.specs.Reading.{through_at}
use Rattle.finite.proofs.Tables.{Upto}
use Rattle.finite.specs.Finite.{tab}
use lib.ListN.{get_or}
use mathlib.Core.List.{[]}
use Prim.Native.Nat.{◌≤◌}
use lib.ListN.{get_or}
use Prim.Native.Nat.{◌≤◌}
use Rattle.even.proofs.reaching.through_tables.Given as goal

abbrev pub invariant-loop-t : goal.invariant-loop-t
invariant-loop-t l = (l.t ≤ 8) × Upto [] 8 l.t (λ i. tab 8 (through_at l.m l.k i)) (λ x. get_or l.initial.n x []) l.n
