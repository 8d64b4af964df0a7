-- The first n of a list, searched. Assumes nothing.
use Prim.Native.Nat.{ℕ, zero, suc, ◌+◌, ◌≤◌}
use native.Mathlib.Omega.{arith}
use mathlib.Core.Path.{◌≡◌, refl, ap, ap₂, ◌∙◌}
use mathlib.Core.Bool.{Bool, ◌||◌}
use mathlib.Core.List.{List}
use lib.ListN.{length, get_or, take}
use Rattle.std.specs.List.{list_any}
use Rattle.std.proofs.lemmas.List.Folds.{list_any_more}
use Rattle.finite.specs.Finite.{any}

-- one of them passes the test p, which answers what q does
pub any-front : {A : Type 0} (e : A) (p q : A → Bool) → ((x : A) → p x ≡ q x) → (n : ℕ) (xs : List A) → n ≤ length xs →
    list_any p (take n xs) ≡ any n (λ i. q (get_or xs i e))
unfolding any
any-front e p q same zero xs l = refl
any-front {A} e p q same (suc n) xs l =
    let k : suc n ≡ n + 1 = omega arith in
    ap (λ (m : ℕ). list_any p (take m xs)) k ∙ list_any_more p xs n e (omega arith) ∙ ap₂ ◌||◌ (any-front e p q same n xs (omega arith)) (same (get_or xs n e))
