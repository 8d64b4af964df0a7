-- What the loops of `even::reaching::alone` keep.
use Rattle.finite.proofs.Tables.{Upto}
use Rattle.finite.specs.Finite.{tab}
use Prim.Native.Nat.{◌≤◌}
use lib.ListN.{get_or}
use lib.Dec.{eqb}
use mathlib.Core.List.{[]}
use lib.ListN.{get_or}
use Prim.Native.Nat.{◌≤◌}
use Rattle.even.proofs.reaching.alone.Given as goal

abbrev pub invariant-loop-t : goal.invariant-loop-t
invariant-loop-t l = (l.t ≤ 8) × Upto [] 8 l.t (λ i. tab 8 (eqb i)) (λ x. get_or l.initial.m x []) l.m
