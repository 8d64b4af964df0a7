-- The laws of `any` and `all`: what they find, and one turn of a loop that asks the numbers 0, 1, .. in turn. Assumes nothing.
use Prim.Native.Nat.{ℕ, zero, suc, ◌+◌, ◌≤◌, ◌<◌}
use native.Mathlib.Nat.{eq-or-lt_of_le, le_of_suc-le-suc, not-suc-le-zero}
use native.Mathlib.Numerals.{add-one}
use native.Mathlib.Omega.{arith}
use mathlib.Core.Path.{◌≡◌, refl, sym, ap, ap₂, ◌∙◌, subst}
use mathlib.Core.Logic.{◌⊎◌, inl, inr}
use mathlib.Core.Bool.{Bool, true, false, not, ◌&&◌, ◌||◌, or-true, or-false, or_assoc, true≢false, and-eq-true_iff}
use borrow.Author.Tests.{not-true}
use Rattle.finite.specs.Finite.{any, all}
use Rattle.finite.proofs.Bools.{or_cases, clash, refute, both}

pub below_suc : {i n : ℕ} → i < suc n → (i ≡ n) ⊎ (i < n)
below_suc h = eq-or-lt_of_le (le_of_suc-le-suc h)

-- ---- any

pub any-true : (n : ℕ) (p : ℕ → Bool) (i : ℕ) → i < n → p i ≡ true → any n p ≡ true
unfolding any
any-true zero p i h e = absurd (not-suc-le-zero h)
any-true (suc n) p i h e = go (below_suc h) (any-true n p i)
  where
    go : (i ≡ n) ⊎ (i < n) → (i < n → p i ≡ true → any n p ≡ true) → any n p || p n ≡ true
    go (inl q) ih = ap (λ (x : Bool). any n p || x) (ap p (sym q) ∙ e) ∙ or-true (any n p)
    go (inr l) ih = ap (λ (x : Bool). x || p n) (ih l e)

pub any_found : (n : ℕ) (p : ℕ → Bool) → any n p ≡ true → (i : ℕ) × (i < n) × (p i ≡ true)
unfolding any
any_found zero p e = absurd (true≢false (sym e))
any_found (suc n) p e = go (or_cases (any n p) (p n) e) (any_found n p)
  where
    go : (any n p ≡ true) ⊎ (p n ≡ true) → (any n p ≡ true → (i : ℕ) × (i < n) × (p i ≡ true)) → (i : ℕ) × (i < suc n) × (p i ≡ true)
    go (inl a) ih = let f = ih a in (f.0, omega (arith, f.1), f.2)
    go (inr q) ih = (n, omega arith, q)

pub any_none : (n : ℕ) (p : ℕ → Bool) → any n p ≡ false → (i : ℕ) → i < n → p i ≡ false
any_none n p e i h = refute (p i) (λ q. clash (any-true n p i h q) e)

pub any_same : (n : ℕ) (p q : ℕ → Bool) → ((i : ℕ) → i < n → p i ≡ q i) → any n p ≡ any n q
unfolding any
any_same zero p q h = refl
any_same (suc n) p q h = ap₂ ◌||◌ (any_same n p q (λ i l. h i (omega arith))) (h n (omega arith))

-- nothing passes
pub any-refuted : (n : ℕ) (p : ℕ → Bool) → ((i : ℕ) → i < n → p i ≡ false) → any n p ≡ false
any-refuted n p h = refute (any n p) (λ e. let f = any_found n p e in clash f.2 (h f.0 f.1))

-- the first number apart
pub any-front : (n : ℕ) (p : ℕ → Bool) → any (suc n) p ≡ p 0 || any n (λ i. p (suc i))
unfolding any
any-front zero p = sym (or-false (p 0))
any-front (suc n) p = ap (λ (b : Bool). b || p (suc n)) (any-front n p) ∙ or_assoc (p 0) (any n (λ i. p (suc i))) (p (suc n))

-- none passes
pub none_before : (n : ℕ) (p : ℕ → Bool) → not (any n p) ≡ true → (i : ℕ) → i < n → p i ≡ false
none_before n p e = any_none n p (not-true (any n p) e)

pub not-before : (n : ℕ) (p : ℕ → Bool) → ((i : ℕ) → i < n → p i ≡ false) → not (any n p) ≡ true
not-before n p h = ap not (any-refuted n p h)

-- a loop that leaves with true at the first number that passes: its start, a turn, its end
pub any-start : (p : ℕ → Bool) → any 0 p ≡ false
unfolding any
any-start p = refl

pub any-suc : (n : ℕ) (p : ℕ → Bool) → any (n + 1) p ≡ any n p || p n
unfolding any
any-suc n p = rw add-one

pub any-more : (n : ℕ) (p : ℕ → Bool) → any n p ≡ false → p n ≡ false → any (n + 1) p ≡ false
any-more n p h e = any-suc n p ∙ ap (λ (b : Bool). b || p n) h ∙ e

pub any-hit : (n i : ℕ) (p : ℕ → Bool) → i < n → p i ≡ true → true ≡ any n p
any-hit n i p h e = sym (any-true n p i h e)

pub any-end : (n k : ℕ) (p : ℕ → Bool) → k ≤ n → n ≤ k → any k p ≡ false → false ≡ any n p
any-end n k p l g h = let e : k ≡ n = omega arith in sym (subst (λ (m : ℕ). any m p ≡ false) e h)

-- ---- all

pub all-at : (n : ℕ) (p : ℕ → Bool) → all n p ≡ true → (i : ℕ) → i < n → p i ≡ true
unfolding all
all-at zero p e i h = absurd (not-suc-le-zero h)
all-at (suc n) p e i h = go (below_suc h) (all-at n p)
  where
    q : (all n p ≡ true) × (p n ≡ true)
    q = (and-eq-true_iff (all n p) (p n)).0 e

    go : (i ≡ n) ⊎ (i < n) → (all n p ≡ true → (j : ℕ) → j < n → p j ≡ true) → p i ≡ true
    go (inl s) ih = ap p s ∙ q.1
    go (inr l) ih = ih q.0 i l

pub all_true : (n : ℕ) (p : ℕ → Bool) → ((i : ℕ) → i < n → p i ≡ true) → all n p ≡ true
unfolding all
all_true zero p h = refl
all_true (suc n) p h = both (all_true n p (λ i l. h i (omega arith))) (h n (omega arith))

pub all_same : (n : ℕ) (p q : ℕ → Bool) → ((i : ℕ) → i < n → p i ≡ q i) → all n p ≡ all n q
unfolding all
all_same zero p q h = refl
all_same (suc n) p q h = ap₂ ◌&&◌ (all_same n p q (λ i l. h i (omega arith))) (h n (omega arith))

-- all numbers below n, looked at one after the other, up to the first that fails: the start, one more number, the end
pub all_start : (p : ℕ → Bool) → all 0 p ≡ true
unfolding all
all_start p = refl

pub all-suc : (n : ℕ) (p : ℕ → Bool) → all (n + 1) p ≡ all n p && p n
unfolding all
all-suc n p = rw add-one

pub all_more : (n : ℕ) (p : ℕ → Bool) → all n p ≡ true → p n ≡ true → all (n + 1) p ≡ true
all_more n p h e = all-suc n p ∙ both h e

pub all-stop : (n i : ℕ) (p : ℕ → Bool) → i < n → p i ≡ false → false ≡ all n p
all-stop n i p h e = sym (refute (all n p) (λ t. clash (all-at n p t i h) e))

pub all_end : (n k : ℕ) (p : ℕ → Bool) → k ≤ n → n ≤ k → all k p ≡ true → true ≡ all n p
all_end n k p l g h = let e : k ≡ n = omega arith in sym (subst (λ (m : ℕ). all m p ≡ true) e h)
