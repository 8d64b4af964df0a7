-- Accepted words rise, so that a fetch is found by halving. Assumes nothing.
use Prim.Native.Nat.{ℕ, zero, suc, ◌-◌, ◌*◌, ◌≤◌, ◌<◌}
use native.Mathlib.Omega.{arith}
use mathlib.Core.Path.{◌≡◌, refl, sym, subst, ◌∙◌}
use mathlib.Core.Logic.{◌⊎◌, inl, inr}
use mathlib.Core.Bool.{Bool, true, false, and-eq-true_iff}
use mathlib.Core.List.{List}
use borrow.Author.Tests.{leb-true, lt-leb, le-leb, lt-ltb, le-ltb, eq-eqb, ne_eqb}
use lib.Dec.{leb, ltb}
use lib.ListN.{length}
use Rattle.finite.proofs.Bools.{and-go, and-stop, cond-true, cond-false}
use Rattle.finite.proofs.Search.{all-at, below_suc}
use Rattle.model.specs.Scheme.{Scheme, is_column}
use Rattle.slice.specs.declared.fetch.Fetch.{Fetch}
use Rattle.slice.specs.Fetches.{column_in, fetch_at, fetch_before, fetch_fits, is_behind, fetches_fit, Ordered}
use Rattle.slice.proofs.OrderLaws.{before-trans}

-- ---- the code's tests

module _ (S : Scheme) (f : Fetch) where
  pub past-tables : S.tables ≤ f.table → false ≡ is_column S (column_in f)
  unfolding is_column
  past-tables l = and-stop _ _ (le-ltb _ _ l)

  pub within-tables : {r : Bool} → f.table < S.tables → r ≡ ltb f.column (S.columns f.table) → r ≡ is_column S (column_in f)
  unfolding is_column
  within-tables l h = and-go _ _ (lt-ltb _ _ l) h

  pub fits-kind : 1 < f.kind → false ≡ fetch_fits S f
  unfolding fetch_fits
  fits-kind l = and-stop _ _ (lt-leb f.kind 1 l)

  pub fits-column : f.kind ≤ 1 → is_column S (column_in f) ≡ false → false ≡ fetch_fits S f
  unfolding fetch_fits
  fits-column l e = and-go _ _ (le-leb f.kind 1 l) (and-stop _ _ e)

  pub fits-number : f.kind ≤ 1 → is_column S (column_in f) ≡ true → f.number < 1 → false ≡ fetch_fits S f
  unfolding fetch_fits
  fits-number l e n = and-go _ _ (le-leb f.kind 1 l) (and-go _ _ e (and-stop _ _ (lt-leb 1 f.number n)))

  pub fits-value : f.kind ≤ 1 → is_column S (column_in f) ≡ true → 1 ≤ f.number → f.kind ≡ 0 → ltb f.end 256 ≡ fetch_fits S f
  unfolding fetch_fits
  fits-value l e n z = and-go _ _ (le-leb f.kind 1 l) (and-go _ _ e (and-go _ _ (le-leb 1 f.number n) (sym (cond-true _ _ _ (eq-eqb f.kind 0 z)))))

  pub fits-span : f.kind ≤ 1 → is_column S (column_in f) ≡ true → 1 ≤ f.number → (f.kind ≡ 0 → ⊥) → leb f.number f.end ≡ fetch_fits S f
  unfolding fetch_fits
  fits-span l e n z = and-go _ _ (le-leb f.kind 1 l) (and-go _ _ e (and-go _ _ (le-leb 1 f.number n) (sym (cond-false _ _ _ (ne_eqb f.kind 0 z)))))

  -- ---- what they say

  fits-most : fetch_fits S f ≡ true → f.kind ≤ 1
  unfolding fetch_fits
  fits-most e = leb-true _ _ ((and-eq-true_iff (leb f.kind 1) _).0 e).0

  fits-full : fetch_fits S f ≡ true → 1 ≤ f.kind → f.number ≤ f.end
  unfolding fetch_fits
  fits-full e l =
      let a = (and-eq-true_iff (leb f.kind 1) _).0 e in
      let b = (and-eq-true_iff (is_column S (column_in f)) _).0 a.1 in
      let c = (and-eq-true_iff (leb 1 f.number) _).0 b.1 in
      leb-true _ _ (sym (cond-false _ _ _ (ne_eqb f.kind 0 (λ z. omega arith))) ∙ c.1)

module _ (ws : List ℕ) (i : ℕ) where
  pub behind-first : i ≡ 0 → true ≡ is_behind ws i
  unfolding is_behind
  behind-first e = sym (cond-true _ _ _ (eq-eqb i 0 e))

  pub behind-next : {r : Bool} → (i ≡ 0 → ⊥) → r ≡ fetch_before (fetch_at ws (i - 1)) (fetch_at ws i) → r ≡ is_behind ws i
  unfolding is_behind
  behind-next n h = h ∙ sym (cond-false _ _ _ (ne_eqb i 0 n))

module _ (S : Scheme) (ws : List ℕ) (n : ℕ) (e : fetches_fit S ws n ≡ true) where
  fit : (i : ℕ) → i < n → fetch_fits S (fetch_at ws i) ≡ true
  unfolding fetches_fit
  fit i l = ((and-eq-true_iff (fetch_fits S (fetch_at ws i)) _).0 (all-at n _ e i l)).0

  behind : (i : ℕ) → suc i < n → fetch_before (fetch_at ws i) (fetch_at ws (suc i)) ≡ true
  unfolding fetches_fit
  behind i l =
      let z : suc i - 1 ≡ i = omega arith in
      subst (λ (j : ℕ). fetch_before (fetch_at ws j) (fetch_at ws (suc i)) ≡ true) z
      (behind-next ws (suc i) (λ y. omega arith) refl ∙ ((and-eq-true_iff (fetch_fits S (fetch_at ws (suc i))) _).0 (all-at n _ e (suc i) l)).1)

  rises : (i j : ℕ) → i < j → j < n → fetch_before (fetch_at ws i) (fetch_at ws j) ≡ true
  rises i zero a b = absurd (omega arith)
  rises i (suc j) a b = go (below_suc a) (rises i j)
    where
      go : (i ≡ j) ⊎ (i < j) → (i < j → j < n → fetch_before (fetch_at ws i) (fetch_at ws j) ≡ true) → fetch_before (fetch_at ws i) (fetch_at ws (suc j)) ≡ true
      go (inl q) ih = subst (λ (x : ℕ). fetch_before (fetch_at ws x) (fetch_at ws (suc j)) ≡ true) (sym q) (behind j b)
      go (inr q) ih = before-trans (fetch_at ws i) (fetch_at ws j) (fetch_at ws (suc j)) (fits-full S (fetch_at ws j) (fit j (omega arith))) (ih q (omega arith)) (behind j b)

  pub fit-ordered : 5 * n ≤ length ws → Ordered ws n
  fit-ordered l =
      record {
        long = l;
        kind = λ i b. fits-most S (fetch_at ws i) (fit i b);
        rising = rises;
        full = λ i b. fits-full S (fetch_at ws i) (fit i b);
      }
