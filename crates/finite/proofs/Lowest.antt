-- The lowest of the numbers below n that pass a test, where an order says which of two is the lower: one number more, and that `lowest_of` finds it.
-- Assumes nothing.
use Prim.Native.Nat.{ℕ, zero, suc, ◌+◌, ◌<◌}
use native.Mathlib.Decide.{dec_lt}
use native.Mathlib.Numerals.{add-one}
use native.Mathlib.Omega.{arith}
use mathlib.Core.Path.{◌≡◌, sym, ap, subst}
use mathlib.Core.Logic.{◌⊎◌, inl, inr, ⊎_elim}
use mathlib.Core.Bool.{Bool, true, false, not, ◌&&◌, and-eq-true_iff}
use borrow.Author.Tests.{not-true}
use Rattle.finite.specs.Finite.{any, first, lowest_of}
use Rattle.finite.proofs.Bools.{both, clash, dec, refute}
use Rattle.finite.proofs.Search.{any-true, any_none, any-refuted, any-start}
use Rattle.finite.proofs.First.{First, first-from}

-- nothing is lower than itself, and what is lower than a lower one is lower
pub record Order {A : Type 0} (lower : A → A → Bool) : Type 0 where
  pub self : (a : A) → lower a a ≡ false
  pub trans : (a b c : A) → lower a b ≡ true → lower b c ≡ true → lower a c ≡ true

-- a pulled back order is one
pub order-of : {A B : Type 0} (lower : B → B → Bool) (f : A → B) → Order lower → Order (λ a b. lower (f a) (f b))
order-of lower f o = record { self = λ a. o.self (f a); trans = λ a b c. o.trans (f a) (f b) (f c) }

module _ (p : ℕ → Bool) (lower : ℕ → ℕ → Bool) where
  -- i is below n and passes, and none below n that passes is lower
  pub record Lowest (n i : ℕ) : Type 0 where
    pub bound : i < n
    pub passes : p i ≡ true
    pub least : (j : ℕ) → j < n → p j ≡ true → lower j i ≡ false

  -- ---- one number more

  -- it does not pass, or is not lower
  pub lowest-kept : (n i : ℕ) → Lowest n i → (p n ≡ true → lower n i ≡ false) → Lowest (n + 1) i
  lowest-kept n i u h = record { bound = omega (arith, u.bound); passes = u.passes; least = λ j l t. go j l t (dec_lt j n) }
    where
      go : (j : ℕ) → j < n + 1 → p j ≡ true → Dec (j < n) → lower j i ≡ false
      go j l t (yes m) = u.least j m t
      go j l t (no m) =
          let e : j ≡ n = omega arith in subst (λ (k : ℕ). lower k i ≡ false) (sym e) (h (subst (λ (k : ℕ). p k ≡ true) e t))

  module _ (o : Order lower) (n : ℕ) (t : p n ≡ true) where
    newest : ((j : ℕ) → j < n → p j ≡ true → lower j n ≡ false) → Lowest (n + 1) n
    newest h = record { bound = omega arith; passes = t; least = λ j l q. go j l q (dec_lt j n) }
      where
        go : (j : ℕ) → j < n + 1 → p j ≡ true → Dec (j < n) → lower j n ≡ false
        go j l q (yes m) = h j m q
        go j l q (no m) = let e : n ≡ j = omega arith in subst (λ (k : ℕ). lower k n ≡ false) e (o.self n)

    -- it is the first that passes
    pub lowest-new : any n p ≡ false → Lowest (n + 1) n
    lowest-new h = newest (λ j l q. clash q (any_none n p h j l))

    -- it is lower
    pub lowest-taken : (i : ℕ) → Lowest n i → lower n i ≡ true → Lowest (n + 1) n
    lowest-taken i u h = newest (λ j l q. refute (lower j n) (λ r. clash (o.trans j n i r h) (u.least j l q)))

  -- ---- the lowest

  -- if any passes there is a lowest
  some : Order lower → (n : ℕ) → any n p ≡ true → (i : ℕ) × Lowest n i
  unfolding any
  some o zero t = clash t (any-start p)
  some o (suc n) t = go (some o n) (dec (any n p)) (dec (p n))
    where
      later : {i : ℕ} → Lowest (n + 1) i → Lowest (suc n) i
      later u = rw add-one at u

      go : (any n p ≡ true → (i : ℕ) × Lowest n i) → (any n p ≡ true) ⊎ (any n p ≡ false) → (p n ≡ true) ⊎ (p n ≡ false) → (i : ℕ) × Lowest (suc n) i
      go ih (inr f) (inr g) = clash t (rw (f, g))
      go ih (inr f) (inl g) = (n, later (lowest-new o n g f))
      go ih (inl f) (inr g) = let u = ih f in (u.0, later (lowest-kept n u.0 u.1 (λ q. clash q g)))
      go ih (inl f) (inl g) =
          let u = ih f in
          ⊎_elim (λ h. (n, later (lowest-taken o n g u.0 u.1 h))) (λ h. (u.0, later (lowest-kept n u.0 u.1 (λ q. h))))
          (dec (lower n u.0))

  pub lowest-is : Order lower → (n : ℕ) → any n p ≡ true → Lowest n (lowest_of n p lower)
  unfolding lowest_of
  lowest-is o n t =
      record {
        bound = within;
        passes = parts.0;
        least = λ j l q. refute (lower j low) (λ r. clash (any-true n _ j l (both q r)) (not-true _ parts.1));
      }
    where
      test : ℕ → Bool
      test i = p i && not (any n (λ j. p j && lower j i))

      low : ℕ
      low = first n test

      found : First n test 0 low
      found = first-from n test 0 (omega arith)

      within : low < n
      within =
          let u = some o n t in
          let h : test u.0 ≡ true =
          both u.1.passes (ap not (any-refuted n _ (λ j l. refute (p j && lower j u.0) (λ r.
          let q = (and-eq-true_iff (p j) (lower j u.0)).0 r in clash q.1 (u.1.least j l q.0))))) in
          go u.1.bound h (dec_lt low n)
        where
          go : {i : ℕ} → i < n → test i ≡ true → Dec (low < n) → low < n
          go l h (yes m) = m
          go l h (no m) = clash h (found.none _ (omega arith) (omega arith))

      parts : (p low ≡ true) × (not (any n (λ j. p j && lower j low)) ≡ true)
      parts = (and-eq-true_iff (p low) _).0 (found.here within)
