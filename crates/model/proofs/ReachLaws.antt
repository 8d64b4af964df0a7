-- The closure over the eight tables is reachability (02, Req 01). Assumes nothing.
use Prim.Native.Nat.{ℕ, zero, suc, ◌<◌}
use native.Mathlib.Nat.{not-suc-le-zero}
use mathlib.Core.Path.{◌≡◌, refl, sym, ap, ◌∙◌, subst}
use mathlib.Core.Logic.{◌⊎◌, inl, inr, ⊎_elim}
use mathlib.Core.Bool.{Bool, true, ◌&&◌, ◌||◌, and-eq-true_iff, or-true}
use borrow.Author.Tests.{eqb-true, eq-eqb}
use lib.Dec.{eqb}
use Rattle.finite.specs.Finite.{any}
use Rattle.finite.proofs.Bools.{or_cases, both, or_left}
use Rattle.finite.proofs.Search.{any-true, any_found, below_suc}
use Rattle.model.specs.Scheme.{Scheme}
use Rattle.model.specs.Even.{Reaches, here, along, linked, reached_by, reaches}

or_right : (a b : Bool) → b ≡ true → a || b ≡ true
or_right a b e = ap (λ (x : Bool). a || x) e ∙ or-true a

module _ {S : Scheme} where
  pub reach-join : {u t w : ℕ} → Reaches S u t → Reaches S w u → Reaches S w t
  reach-join {w = w} (here e) q = subst (λ (n : ℕ). Reaches S w n) (sym e) q
  reach-join (along i l e p) q = along i l e (reach-join p q)

module _ (S : Scheme) where
  -- ---- what the test finds is reached

  linked-reaches : (t u : ℕ) → linked S t u ≡ true → Reaches S u t
  unfolding linked
  linked-reaches t u e = ⊎_elim (λ a. here (eqb-true t u a)) step (or_cases (eqb t u) _ e)
    where
      step : any S.constraints (λ i. eqb (S.constraint i).source.table t && eqb (S.constraint i).target.table u) ≡ true → Reaches S u t
      step a =
          let f = any_found S.constraints _ a in
          let g = (and-eq-true_iff (eqb (S.constraint f.0).source.table t) _).0 f.2 in
          along f.0 f.1 (sym (eqb-true _ _ g.0)) (here (eqb-true _ _ g.1))

  by-reaches : (k t u : ℕ) → reached_by S k t u ≡ true → Reaches S u t
  unfolding reached_by
  by-reaches zero t u e = linked-reaches t u e
  by-reaches (suc k) t u e = go (or_cases (reached_by S k t u) _ e) (by-reaches k t u) (by-reaches k t k) (by-reaches k k u)
    where
      go : (reached_by S k t u ≡ true) ⊎ (reached_by S k t k && reached_by S k k u ≡ true) → (reached_by S k t u ≡ true → Reaches S u t) →
          (reached_by S k t k ≡ true → Reaches S k t) → (reached_by S k k u ≡ true → Reaches S u k) → Reaches S u t
      go (inl a) f g h = f a
      go (inr a) f g h = let b = (and-eq-true_iff (reached_by S k t k) _).0 a in reach-join (g b.0) (h b.1)

  pub reaches-Reaches : (t u : ℕ) → reaches S t u ≡ true → Reaches S u t
  unfolding reaches
  reaches-Reaches t u e = by-reaches 8 t u e

  -- ---- what is reached the test finds

  abbrev R : ℕ → ℕ → ℕ → Type 0
  R k t u = reached_by S k t u ≡ true

  kept : (k t u : ℕ) → R k t u → R (suc k) t u
  unfolding reached_by
  kept k t u e = sym (or_left _ _ e)

  through : (k t u : ℕ) → R k t k → R k k u → R (suc k) t u
  unfolding reached_by
  through k t u a b = or_right (reached_by S k t u) (reached_by S k t k && reached_by S k k u) (both a b)

  split : (k t u : ℕ) → R (suc k) t u → (R k t u) ⊎ ((R k t k) × (R k k u))
  unfolding reached_by
  split k t u e = ⊎_elim inl (λ a. inr ((and-eq-true_iff (reached_by S k t k) _).0 a)) (or_cases (reached_by S k t u) _ e)

  to-pivot : (k t : ℕ) → R (suc k) t k → R k t k
  to-pivot k t e = ⊎_elim (λ a. a) (λ a. a.0) (split k t k e)

  from-pivot : (k u : ℕ) → R (suc k) k u → R k k u
  from-pivot k u e = ⊎_elim (λ a. a) (λ a. a.1) (split k k u e)

  -- paths meet at a table below k
  joined : (k p t u : ℕ) → p < k → R k t p → R k p u → R k t u
  joined zero p t u l a b = absurd (not-suc-le-zero l)
  joined (suc k) p t u l a b = go (below_suc l) (split k t p a) (split k p u b) (joined k p)
    where
      go : (p ≡ k) ⊎ (p < k) → (R k t p) ⊎ ((R k t k) × (R k k p)) → (R k p u) ⊎ ((R k p k) × (R k k u)) → ((x y : ℕ) → p < k → R k x p → R k p y → R k x y) →
          R (suc k) t u
      go (inl e) x y ih = through k t u (to-pivot k t (subst (λ (n : ℕ). R (suc k) t n) e a)) (from-pivot k u (subst (λ (n : ℕ). R (suc k) n u) e b))
      go (inr l') (inl x) (inl y) ih = kept k t u (ih t u l' x y)
      go (inr l') (inl x) (inr y) ih = through k t u (ih t k l' x y.0) y.1
      go (inr l') (inr x) (inl y) ih = through k t u x.0 (ih k u l' x.1 y)
      go (inr l') (inr x) (inr y) ih = through k t u x.0 y.1

  all-kept : (k t u : ℕ) → linked S t u ≡ true → R k t u
  unfolding reached_by
  all-kept zero t u e = e
  all-kept (suc k) t u e = kept k t u (all-kept k t u e)

  self : (t u : ℕ) → t ≡ u → linked S t u ≡ true
  unfolding linked
  self t u e = sym (or_left _ _ (eq-eqb t u e))

  step : (t i : ℕ) → i < S.constraints → t ≡ (S.constraint i).source.table → linked S t (S.constraint i).target.table ≡ true
  unfolding linked
  step t i l e =
      or_right (eqb t (S.constraint i).target.table) _
      (any-true S.constraints (λ j. eqb (S.constraint j).source.table t && eqb (S.constraint j).target.table (S.constraint i).target.table) i l
      (both (eq-eqb (S.constraint i).source.table t (sym e)) (eq-eqb (S.constraint i).target.table (S.constraint i).target.table refl)))

  found : ((i : ℕ) → i < S.constraints → (S.constraint i).target.table < 8) → (u t : ℕ) → Reaches S u t → reaches S t u ≡ true
  unfolding reaches
  found few u t (here e) = all-kept 8 t u (self t u e)
  found few u t (along i l e p) = joined 8 (S.constraint i).target.table t u (few i l) (all-kept 8 t _ (step t i l e)) (found few u _ p)

  pub Reaches-reaches : ((i : ℕ) → i < S.constraints → (S.constraint i).target.table < 8) → (t u : ℕ) → Reaches S u t → reaches S t u ≡ true
  Reaches-reaches few t u = found few u t
