-- The laws of `count`. Assumes nothing.
use Prim.Native.Nat.{ℕ, zero, suc, ◌+◌, ◌≤◌, ◌<◌}
use native.Mathlib.Nat.{eq-or-lt_of_le, le_of_suc-le-suc, not-suc-le-zero}
use native.Mathlib.Numerals.{add-one}
use native.Mathlib.Omega.{arith}
use mathlib.Core.Path.{◌≡◌, refl, sym, ap, ap₂, ◌∙◌, subst}
use mathlib.Core.Logic.{◌⊎◌, inl, inr, ⊎_elim}
use mathlib.Core.Bool.{Bool, true, false, cond}
use Rattle.finite.specs.Finite.{count}
use Rattle.finite.proofs.Bools.{clash}
use Rattle.finite.proofs.Search.{below_suc}

pub count-le : (n : ℕ) (p : ℕ → Bool) → count n p ≤ n
unfolding count
count-le zero p = omega arith
count-le (suc n) p = go (p n) (count-le n p)
  where
    go : (b : Bool) → count n p ≤ n → count n p + cond b 1 0 ≤ suc n
    go true h = omega arith
    go false h = omega arith

-- what passes p passes q too
pub count-mono : (n : ℕ) (p q : ℕ → Bool) → ((i : ℕ) → p i ≡ true → q i ≡ true) → count n p ≤ count n q
unfolding count
count-mono zero p q h = omega arith
count-mono (suc n) p q h = go (p n) (q n) (h n) (count-mono n p q h)
  where
    go : (a b : Bool) → (a ≡ true → b ≡ true) → count n p ≤ count n q → count n p + cond a 1 0 ≤ count n q + cond b 1 0
    go true true g l = omega arith
    go true false g l = clash (g refl) refl
    go false true g l = omega arith
    go false false g l = omega arith

-- ... and one more does
pub count-more : (n : ℕ) (p q : ℕ → Bool) → ((i : ℕ) → p i ≡ true → q i ≡ true) → (i : ℕ) → i < n → p i ≡ false → q i ≡ true → count n p < count n q
unfolding count
count-more zero p q h i l a b = absurd (not-suc-le-zero l)
count-more (suc n) p q h i l a b = go (below_suc l) (count-more n p q h i)
  where
    last : i ≡ n → count n p + cond (p n) 1 0 < count n q + cond (q n) 1 0
    last e = let x : p n ≡ false = rw e at a in let y : q n ≡ true = rw e at b in let m = count-mono n p q h in rw (x, y) (omega arith)

    step : (x y : Bool) → (x ≡ true → y ≡ true) → count n p < count n q → count n p + cond x 1 0 < count n q + cond y 1 0
    step true true g m = omega arith
    step true false g m = clash (g refl) refl
    step false true g m = omega arith
    step false false g m = omega arith

    go : (i ≡ n) ⊎ (i < n) → (i < n → p i ≡ false → q i ≡ true → count n p < count n q) → count n p + cond (p n) 1 0 < count n q + cond (q n) 1 0
    go (inl e) ih = last e
    go (inr k) ih = step (p n) (q n) (h n) (ih k a b)

-- just the numbers below m pass
pub count-prefix : (n m : ℕ) (p : ℕ → Bool) → m ≤ n → ((i : ℕ) → i < m → p i ≡ true) → ((i : ℕ) → m ≤ i → p i ≡ false) → count n p ≡ m
unfolding count
count-prefix zero m p l a b = omega arith
count-prefix (suc n) m p l a b = ⊎_elim last (λ k. let e = count-prefix n m p (le_of_suc-le-suc k) a b in rw (b n (le_of_suc-le-suc k)) (omega arith)) (eq-or-lt_of_le l)
  where
    all : (k : ℕ) → ((i : ℕ) → i < k → p i ≡ true) → count k p ≡ k
    all zero h = refl
    all (suc k) h = let e = all k (λ i q. h i (omega arith)) in rw (h k (omega arith)) (omega arith)

    last : m ≡ suc n → count n p + cond (p n) 1 0 ≡ m
    last e = all (suc n) (λ i h. a i (omega arith)) ∙ sym e

pub count_same : (n : ℕ) (p q : ℕ → Bool) → ((i : ℕ) → i < n → p i ≡ q i) → count n p ≡ count n q
unfolding count
count_same zero p q h = refl
count_same (suc n) p q h = ap₂ ◌+◌ (count_same n p q (λ i l. h i (omega arith))) (ap (λ (b : Bool). cond b 1 0) (h n (omega arith)))

-- nothing passes
pub count_none : (n : ℕ) (p : ℕ → Bool) → ((r : ℕ) → r < n → p r ≡ false) → count n p ≡ 0
count_none n p h = count_same n p (λ _. false) h ∙ count-prefix n 0 (λ _. false) (omega arith) (λ i l. absurd (omega arith)) (λ i l. refl)

-- one number more passes
pub count-one : (n : ℕ) (p q : ℕ → Bool) (r : ℕ) → r < n → p r ≡ false → q r ≡ true → ((x : ℕ) → x < n → (x ≡ r → ⊥) → p x ≡ q x) → count n q ≡ count n p + 1
unfolding count
count-one zero p q r l a b h = absurd (omega arith)
count-one (suc n) p q r l a b h = go (below_suc l) (λ k. count-one n p q r k a b (λ x m. h x (omega arith)))
  where
    go : (r ≡ n) ⊎ (r < n) → (r < n → count n q ≡ count n p + 1) → count n q + cond (q n) 1 0 ≡ count n p + cond (p n) 1 0 + 1
    go (inl e) ih =
        let u : p n ≡ false = rw e at a in
        let v : q n ≡ true = rw e at b in
        rw (u, v) (omega (arith, count_same n p q (λ x k. h x (omega arith) (λ (w : x ≡ r). omega arith))))
    go (inr k) ih = rw (h n (omega arith) (λ (w : n ≡ r). omega arith)) (omega (arith, ih k))

-- ---- a loop that counts: its start, a number that passes, one that does not, its end

pub count-start : (p : ℕ → Bool) → 0 ≡ count 0 p
unfolding count
count-start p = refl

pub count-suc : (n : ℕ) (p : ℕ → Bool) → count (n + 1) p ≡ count n p + cond (p n) 1 0
unfolding count
count-suc n p = rw add-one

pub count-hit : (n r : ℕ) (p : ℕ → Bool) → n ≡ count r p → p r ≡ true → n + 1 ≡ count (r + 1) p
count-hit n r p e h = ap (λ (m : ℕ). m + 1) e ∙ sym (count-suc r p ∙ ap (λ (b : Bool). count r p + cond b 1 0) h)

pub count-miss : (n r : ℕ) (p : ℕ → Bool) → n ≡ count r p → p r ≡ false → n ≡ count (r + 1) p
count-miss n r p e h = omega (arith, e, sym (count-suc r p ∙ ap (λ (b : Bool). count r p + cond b 1 0) h))

pub count-end : (n r m : ℕ) (p : ℕ → Bool) → r ≤ m → m ≤ r → n ≡ count r p → n ≡ count m p
count-end n r m p l g h = let e : r ≡ m = omega arith in subst (λ (k : ℕ). n ≡ count k p) e h
