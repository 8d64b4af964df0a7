-- The first n of a list as a table. Assumes nothing.
use Prim.Native.Nat.{ℕ, ◌≤◌}
use native.Mathlib.Omega.{arith}
use mathlib.Core.Path.{◌≡◌}
use mathlib.Core.List.{List}
use lib.ListN.{length, get_or, take, length-take}
use lib.Seq.{get_or-take}
use Rattle.finite.specs.Finite.{tab}
use Rattle.finite.proofs.Tables.{tab-of}

-- the first n of a list
pub take_is-tab : {A : Type 0} (e : A) (n : ℕ) (xs : List A) → n ≤ length xs → take n xs ≡ tab n (λ i. get_or xs i e)
take_is-tab {A} e n xs l = tab-of e n (λ i. get_or xs i e) (take n xs) (omega (arith, length-take n xs)) (λ i h. get_or-take n xs i e h)
