-- What the loops of `even::pairs::evenness` keep.
use Prim.Native.Nat.{◌≤◌}
use mathlib.Core.Path.{◌≡◌}
use lib.Dec.{ltb}
use Rattle.finite.specs.Finite.{first_from}
use Rattle.model.specs.Even.{reaches, square, uneven_from, lowest_uneven}
use Rattle.state.specs.Meaning.{scheme_of}
use Rattle.even.proofs.pairs.evenness.Given as goal

abbrev pub invariant-loop-i : goal.invariant-loop-i
invariant-loop-i l = (l.i ≤ l.n) × (l.n ≡ l.d.constraints) × (l.m ≡ square (reaches (scheme_of l.d))) ×
    (lowest_uneven (scheme_of l.d) ≡ first_from l.n (λ k. ltb (uneven_from (scheme_of l.d) k) l.n) l.i)
