-- Places of an array: past its end; used, or unused and 0. Assumes nothing.
use Prim.Native.Nat.{ℕ, ◌+◌, ◌≤◌, ◌<◌}
use native.Mathlib.Omega.{arith}
use mathlib.Core.Path.{◌≡◌, sym, ap, subst, ◌∙◌}
use mathlib.Core.Logic.{◌⊎◌, ⊎_elim}
use mathlib.Core.Bool.{Bool, true, false, cond}
use mathlib.Core.List.{List}
use borrow.Author.Tests.{lt-ltb, le-ltb, ltb-true, ltb-false}
use lib.Dec.{ltb}
use lib.ListN.{length, get_or, get_or-eq_default}
use Rattle.finite.specs.Finite.{all}
use Rattle.finite.proofs.Bools.{dec, order, cond-true, cond-false}
use Rattle.finite.proofs.Search.{all-at, all_true}
use Rattle.state.specs.Lawful.{used_or}

-- nothing stands at or past the end
pub past_end : {A : Type 0} (xs : List A) (e : A) (n i : ℕ) → length xs ≡ n → n ≤ i → get_or xs i e ≡ e
past_end xs e n i l h = get_or-eq_default xs e (omega arith)

-- ---- one place

pub used-is : (i n : ℕ) (a b : Bool) → i < n → used_or i n a b ≡ a
used-is i n a b h = cond-true (ltb i n) a b (lt-ltb i n h)

pub unused-is : (i n : ℕ) (a b : Bool) → n ≤ i → used_or i n a b ≡ b
unused-is i n a b h = cond-false (ltb i n) a b (le-ltb i n h)

-- the same as an early return needs it
pub used : (i n : ℕ) (a b : Bool) {r : Bool} → i < n → r ≡ a → r ≡ used_or i n a b
used i n a b h e = e ∙ sym (used-is i n a b h)

pub unused : (i n : ℕ) (a b : Bool) {r : Bool} → n ≤ i → r ≡ b → r ≡ used_or i n a b
unused i n a b h e = e ∙ sym (unused-is i n a b h)

-- no place is used: what the test of a used place says does not matter
pub none-used : (i n : ℕ) (a b c : Bool) → n ≡ 0 → used_or i n a c ≡ true → used_or i n b c ≡ true
none-used i n a b c e h = unused-is i n b c (omega arith) ∙ sym (unused-is i n a c (omega arith)) ∙ h

-- ---- all places below n, of which those of u are used: p is the test of a used place, q of an unused one

module _ (n : ℕ) (u p q : ℕ → Bool) where
  pub where-used : all n (λ i. cond (u i) (p i) (q i)) ≡ true → (i : ℕ) → i < n → u i ≡ true → p i ≡ true
  where-used e i l h = sym (cond-true (u i) (p i) (q i) h) ∙ all-at n _ e i l

  pub where-unused : all n (λ i. cond (u i) (p i) (q i)) ≡ true → (i : ℕ) → i < n → u i ≡ false → q i ≡ true
  where-unused e i l h = sym (cond-false (u i) (p i) (q i) h) ∙ all-at n _ e i l

  pub all-where : ((i : ℕ) → i < n → u i ≡ true → p i ≡ true) → ((i : ℕ) → i < n → u i ≡ false → q i ≡ true) → all n (λ i. cond (u i) (p i) (q i)) ≡ true
  all-where f g =
      all_true n _
      (λ i l. ⊎_elim (λ (e : u i ≡ true). cond-true (u i) (p i) (q i) e ∙ f i l e) (λ (e : u i ≡ false). cond-false (u i) (p i) (q i) e ∙ g i l e) (dec (u i)))

-- the same where those below m are used
module _ (n m : ℕ) (p q : ℕ → Bool) where
  pub used-at : all n (λ i. used_or i m (p i) (q i)) ≡ true → (i : ℕ) → i < n → i < m → p i ≡ true
  used-at e i l h = where-used n (λ j. ltb j m) p q e i l (lt-ltb i m h)

  pub unused-at : all n (λ i. used_or i m (p i) (q i)) ≡ true → (i : ℕ) → i < n → m ≤ i → q i ≡ true
  unused-at e i l h = where-unused n (λ j. ltb j m) p q e i l (le-ltb i m h)

  pub all-places : ((i : ℕ) → i < n → i < m → p i ≡ true) → ((i : ℕ) → i < n → m ≤ i → q i ≡ true) → all n (λ i. used_or i m (p i) (q i)) ≡ true
  all-places f g = all-where n (λ j. ltb j m) p q (λ i l e. f i l (ltb-true i m e)) (λ i l e. g i l (ltb-false i m e))

-- one more place of m is used: the n before it are tested as they were, it passes its test, and those behind it are as they were
module _ (m n : ℕ) (test test' empty empty' : ℕ → Bool) where
  pub one_more : ((i : ℕ) → i < m → used_or i n (test i) (empty i) ≡ true) → ((i : ℕ) → i < n → test' i ≡ test i) → test' n ≡ true
      → ((i : ℕ) → n < i → i < m → empty' i ≡ empty i) → (i : ℕ) → i < m → used_or i (n + 1) (test' i) (empty' i) ≡ true
  one_more h a b c i l =
      ⊎_elim (λ (q : i < n). used-is i (n + 1) (test' i) (empty' i) (omega arith) ∙ a i q ∙ sym (used-is i n (test i) (empty i) q) ∙ h i l)
      (λ (q : (i ≡ n) ⊎ (n < i)). ⊎_elim (λ (e : i ≡ n). used-is i (n + 1) (test' i) (empty' i) (omega arith) ∙ ap test' e ∙ b)
      (λ (k : n < i). unused-is i (n + 1) (test' i) (empty' i) (omega arith) ∙ c i k l ∙ sym (unused-is i n (test i) (empty i) (omega arith)) ∙ h i l) q)
      (order i n)

-- what holds of every element of an array of n places: it holds of the first m, and the rest are e
pub in_array : {A : Type 0} (xs : List A) (e : A) (n m : ℕ) (P : A → Type 0) → length xs ≡ n → ((i : ℕ) → i < m → P (get_or xs i e)) →
    ((i : ℕ) → i < n → m ≤ i → get_or xs i e ≡ e) → P e → (i : ℕ) → P (get_or xs i e)
in_array xs e n m P long f g z i =
    ⊎_elim (λ (b : ltb i m ≡ true). f i (ltb-true i m b))
    (λ (b : ltb i m ≡ false). ⊎_elim (λ (q : ltb i n ≡ true). subst P (sym (g i (ltb-true i n q) (ltb-false i m b))) z)
    (λ (q : ltb i n ≡ false). subst P (sym (past_end xs e n i long (ltb-false i n q))) z) (dec (ltb i n)))
    (dec (ltb i m))
