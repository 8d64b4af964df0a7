-- The laws of `sum_over`. Assumes nothing.
use Prim.Native.Nat.{ℕ, ◌+◌, ◌*◌, ◌≤◌}
use native.Mathlib.Nat.{add-zero, suc-mul}
use native.Mathlib.Omega.{arith}
use mathlib.Core.Path.{◌≡◌, refl, ap₂}
use mathlib.Core.Bool.{Bool, true, false, cond}
use mathlib.Core.List.{List, [], ◌∷◌, ◌++◌, Memᴰ}
use lib.ListN.{length}
use Rattle.finite.specs.Sums.{sum_over}

module _ {A : Type 0} (f : A → ℕ) where
  pub over-one : (x : A) → sum_over f (x ∷ []) ≡ f x
  unfolding sum_over
  over-one x = add-zero (f x)

  pub over-append : (xs ys : List A) → sum_over f (xs ++ ys) ≡ sum_over f xs + sum_over f ys
  unfolding sum_over
  over-append [] ys = omega arith
  over-append (x ∷ xs) ys = omega (arith, over-append xs ys)

  pub over-cond : (b : Bool) (xs : List A) → sum_over f (cond b xs []) ≡ cond b (sum_over f xs) 0
  unfolding sum_over
  over-cond true xs = refl
  over-cond false xs = refl

  -- two functions that agree on the elements
  pub over-same : (g : A → ℕ) (xs : List A) → ((x : A) → Memᴰ x xs → f x ≡ g x) → sum_over f xs ≡ sum_over g xs
  unfolding sum_over
  over-same g [] h = refl
  over-same g (x ∷ xs) h = ap₂ ◌+◌ (h x (Memᴰ.head refl)) (over-same g xs (λ y m. h y (Memᴰ.tail m)))

  -- no element counts for more than n
  pub over-most : (n : ℕ) (xs : List A) → ((x : A) → Memᴰ x xs → f x ≤ n) → sum_over f xs ≤ length xs * n
  unfolding sum_over
  over-most n [] h = omega arith
  over-most n (x ∷ xs) h =
      omega (arith, h x (Memᴰ.head refl), over-most n xs (λ y m. h y (Memᴰ.tail m)), suc-mul (length xs) n)

-- each element counts 1
pub over_ones : {A : Type 0} (xs : List A) → sum_over (λ _. 1) xs ≡ length xs
unfolding sum_over
over_ones [] = refl
over_ones (x ∷ xs) = omega (arith, over_ones xs)
