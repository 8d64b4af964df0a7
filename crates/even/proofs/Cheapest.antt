-- The cheapest walks, found in rounds: no walk of so many steps costs less, and some walk costs as much. Assumes nothing.
use Prim.Native.Nat.{ℕ, zero, suc, ◌+◌, ◌≤◌, ◌<◌, min}
use native.Mathlib.Nat.{not-suc-le-zero, le_of_suc-le-suc}
use native.Mathlib.Omega.{arith}
use mathlib.Core.Path.{◌≡◌, refl, sym, ◌∙◌}
use mathlib.Core.Logic.{◌⊎◌, inl, inr, ⊎_elim}
use mathlib.Core.Bool.{true, false, cond}
use mathlib.Core.List.{List, [], ◌∷◌}
use borrow.Author.Tests.{eqb-true, eq-eqb, eqb-false, ne_eqb}
use lib.Dec.{eqb}
use lib.ListN.{length}
use Rattle.finite.proofs.Bools.{dec, cond-true, cond-false, min_cases}
use Rattle.finite.proofs.Search.{below_suc}
use Rattle.model.specs.Scheme.{Scheme}
use Rattle.even.specs.Walks.{source_of, target_of, weight_of, far, lowest, onward, cheapest}
use Rattle.even.proofs.Walks.{Walk, here, along, cost}

-- ---- the lower of two, and the lowest of some

pub record Least (a b m : ℕ) : Type 0 where
  pub left : m ≤ a
  pub right : m ≤ b
  pub one : (m ≡ a) ⊎ (m ≡ b)

pub least : (a b : ℕ) → Least a b (min a b)
least a b = go (min_cases a b)
  where
    go : ((min a b ≡ a) × (a ≤ b)) ⊎ ((min a b ≡ b) × (b ≤ a)) → Least a b (min a b)
    go (inl q) = record { left = omega (arith, q.0); right = omega (arith, q.0, q.1); one = inl q.0 }
    go (inr q) = record { left = omega (arith, q.0, q.1); right = omega (arith, q.0); one = inr q.0 }

pub lowest-far : (f : ℕ → ℕ) (n : ℕ) → lowest n f ≤ far
unfolding lowest
lowest-far f zero = omega arith
lowest-far f (suc n) = omega (arith, lowest-far f n, (least (lowest n f) (f n)).left)

pub lowest-le : (f : ℕ → ℕ) (n i : ℕ) → i < n → lowest n f ≤ f i
unfolding lowest
lowest-le f zero i l = absurd (not-suc-le-zero l)
lowest-le f (suc n) i l = go (below_suc l) (lowest-le f n i) (least (lowest n f) (f n))
  where
    go : (i ≡ n) ⊎ (i < n) → (i < n → lowest n f ≤ f i) → Least (lowest n f) (f n) (min (lowest n f) (f n)) → min (lowest n f) (f n) ≤ f i
    go (inl e) ih q = rw e q.right
    go (inr m) ih q = omega (arith, q.left, ih m)

pub lowest-found : (f : ℕ → ℕ) (n : ℕ) → lowest n f < far → (i : ℕ) × (i < n) × (lowest n f ≡ f i)
unfolding lowest
lowest-found f zero l = absurd (omega arith)
lowest-found f (suc n) l = go (lowest-found f n) (least (lowest n f) (f n)).one l
  where
    go : (lowest n f < far → (i : ℕ) × (i < n) × (lowest n f ≡ f i)) → (min (lowest n f) (f n) ≡ lowest n f) ⊎ (min (lowest n f) (f n) ≡ f n) →
        min (lowest n f) (f n) < far → (i : ℕ) × (i < suc n) × (min (lowest n f) (f n) ≡ f i)
    go ih (inl q) l = let r = ih (omega (arith, q)) in (r.0, omega (arith, r.1), q ∙ r.2)
    go ih (inr q) l = (n, omega arith, q)

-- ---- the cheapest walk to u

module _ (S : Scheme) (u : ℕ) where
  -- from t on along a constraint that starts there, and along another
  pub on-here : (c : ℕ → ℕ) (t i : ℕ) → source_of S i ≡ t → onward S c t i ≡ weight_of i + c (target_of S i)
  unfolding onward
  on-here c t i e = cond-true (eqb (source_of S i) t) _ _ (eq-eqb _ _ e)

  pub on-other : (c : ℕ → ℕ) (t i : ℕ) → (source_of S i ≡ t → ⊥) → onward S c t i ≡ far
  unfolding onward
  on-other c t i e = cond-false (eqb (source_of S i) t) _ _ (ne_eqb _ _ e)

  abbrev on : ℕ → ℕ → ℕ → ℕ
  on m t = onward S (cheapest S u m) t

  pub cheapest-far : (m t : ℕ) → cheapest S u m t ≤ far
  unfolding cheapest
  cheapest-far zero t = ⊎_elim (λ (e : eqb t u ≡ true). rw e (omega arith)) (λ (e : eqb t u ≡ false). rw e (omega arith)) (dec (eqb t u))
  cheapest-far (suc m) t = omega (arith, cheapest-far m t, (least (cheapest S u m t) (lowest S.constraints (on m t))).left)

  -- no walk costs less
  pub cheapest-le : (m t : ℕ) (is : List ℕ) → Walk S (λ _. true) u t is → length is ≤ m → cheapest S u m t ≤ cost weight_of is
  unfolding cheapest cost
  cheapest-le zero t is (here e) h = rw (eq-eqb t u e) (omega arith)
  cheapest-le zero t is (along i l k s p) h = absurd (not-suc-le-zero h)
  cheapest-le (suc m) t is (here e) h = omega (arith, cheapest-le m t [] (here e) (omega arith), (least (cheapest S u m t) (lowest S.constraints (on m t))).left)
  cheapest-le (suc m) t js (along i l k s p) h =
      omega (
        arith,
        cheapest-le m (target_of S i) _ p (le_of_suc-le-suc h),
        lowest-le (on m t) S.constraints i l,
        on-here (cheapest S u m) t i s,
        (least (cheapest S u m t) (lowest S.constraints (on m t))).right,
      )

  -- a walk that costs so much
  pub record Costs (t c : ℕ) : Type 0 where
    pub steps : List ℕ
    pub walk : Walk S (λ _. true) u t steps
    pub is : cost weight_of steps ≡ c

  -- some walk costs as much
  pub cheapest-found : (m t : ℕ) → cheapest S u m t < far → Costs t (cheapest S u m t)
  unfolding cheapest cost
  cheapest-found zero t l = go (dec (eqb t u)) l
    where
      go : (eqb t u ≡ true) ⊎ (eqb t u ≡ false) → cond (eqb t u) 0 far < far → Costs t (cond (eqb t u) 0 far)
      go (inl e) l = record { steps = []; walk = here (eqb-true t u e); is = rw e refl }
      go (inr e) l = absurd (let z : far < far = rw e at l in omega arith)
  cheapest-found (suc m) t l = go (cheapest-found m) (least (cheapest S u m t) (lowest S.constraints (on m t))).one l
    where
      step : ((y : ℕ) → cheapest S u m y < far → Costs y (cheapest S u m y)) → (i : ℕ) → i < S.constraints → on m t i < far →
          (eqb (source_of S i) t ≡ true) ⊎ (eqb (source_of S i) t ≡ false) → Costs t (on m t i)
      step ih i b l (inl e) =
          let h = on-here (cheapest S u m) t i (eqb-true _ _ e) in
          let r = ih (target_of S i) (omega (arith, h)) in
          record { steps = i ∷ r.steps; walk = along i b refl (eqb-true _ _ e) r.walk; is = omega (arith, r.is, h) }
      step ih i b l (inr e) = absurd (omega (arith, on-other (cheapest S u m) t i (eqb-false _ _ e)))

      go : ((y : ℕ) → cheapest S u m y < far → Costs y (cheapest S u m y)) →
          (min (cheapest S u m t) (lowest S.constraints (on m t)) ≡ cheapest S u m t) ⊎
          (min (cheapest S u m t) (lowest S.constraints (on m t)) ≡ lowest S.constraints (on m t)) → min (cheapest S u m t) (lowest S.constraints (on m t)) < far →
          Costs t (min (cheapest S u m t) (lowest S.constraints (on m t)))
      go ih (inl q) l = let r = ih t (omega (arith, q)) in record { steps = r.steps; walk = r.walk; is = r.is ∙ sym q }
      go ih (inr q) l =
          let f = lowest-found (on m t) S.constraints (omega (arith, q)) in
          let r = step ih f.0 f.1 (omega (arith, q, f.2)) (dec (eqb (source_of S f.0) t)) in
          record { steps = r.steps; walk = r.walk; is = omega (arith, r.is, q, f.2) }
