-- One turn of the closing loop. Assumes nothing.
use Prim.Native.Nat.{ℕ, ◌+◌, ◌≤◌, ◌<◌}
use native.Mathlib.Omega.{arith}
use native.Mathlib.Numerals.{add-one}
use mathlib.Core.Path.{◌≡◌, sym, ap, ap₂, ◌∙◌}
use mathlib.Core.Bool.{Bool, false, ◌&&◌, ◌||◌}
use mathlib.Core.List.{List, []}
use lib.ListN.{get_or}
use Rattle.finite.specs.Finite.{tab}
use Rattle.finite.proofs.Tables.{tab-at, tab-same}
use Rattle.model.specs.Scheme.{Scheme}
use Rattle.model.specs.Even.{linked, reached_by, reaches, square}
use Rattle.even.specs.Reading.{at, through_at}

pub square-at : (f : ℕ → ℕ → Bool) (t u : ℕ) → t < 8 → u < 8 → at (square f) t u ≡ f t u
square-at f t u a b = ap (λ (r : List Bool). get_or r u false) (tab-at [] 8 (λ i. tab 8 (f i)) t a) ∙ tab-at false 8 (f t) u b

pub start : (S : Scheme) (m : List (List Bool)) → m ≡ square (linked S) → m ≡ square (reached_by S 0)
unfolding reached_by
start S m e = e

pub turn : (S : Scheme) (m n : List (List Bool)) (k : ℕ) → k < 8 → m ≡ square (reached_by S k) → n ≡ square (through_at m k) → n ≡ square (reached_by S (k + 1))
unfolding reached_by
turn S m n k l h e =
    e ∙ ap (λ x. square (through_at x k)) h ∙
    tab-same 8 _ _ (λ t a. tab-same 8 _ _ (λ u b.
    ap₂ ◌||◌ (square-at (reached_by S k) t u a b) (ap₂ ◌&&◌ (square-at (reached_by S k) t k a l) (square-at (reached_by S k) k u l b)))) ∙
    ap (λ (j : ℕ). square (reached_by S j)) (sym (add-one k))

pub done : (S : Scheme) (m : List (List Bool)) (k : ℕ) → k ≤ 8 → 8 ≤ k → m ≡ square (reached_by S k) → m ≡ square (reaches S)
unfolding reaches
done S m k a b h = let e : k ≡ 8 = omega arith in h ∙ ap (λ (j : ℕ). square (reached_by S j)) e
