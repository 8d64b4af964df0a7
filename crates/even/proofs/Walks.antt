-- Sets of constraints with their weights, and walks along the constraints of a set: cut where it comes to a table again, a walk costs no more than its set.
-- Assumes nothing.
use Prim.Native.Nat.{ℕ, zero, suc, ◌+◌, ◌≤◌, ◌<◌}
use native.Mathlib.Nat.{not-suc-le-zero}
use native.Mathlib.Omega.{arith}
use mathlib.Core.Path.{◌≡◌, refl, sym, ap, subst, ◌∙◌}
use mathlib.Core.Logic.{◌⊎◌, inl, inr, ⊎_elim}
use mathlib.Core.Bool.{Bool, true, false, not, cond, ◌&&◌, and-eq-true_iff}
use mathlib.Core.List.{List, [], ◌∷◌}
use borrow.Author.Tests.{eqb-true, eq-eqb, eqb-false, not-true}
use lib.Dec.{eqb}
use lib.ListN.{length}
use Rattle.finite.specs.Finite.{count}
use Rattle.finite.proofs.Bools.{dec, both, clash, refute, ne-not}
use Rattle.finite.proofs.Counting.{count-more, count-le}
use Rattle.finite.proofs.Search.{below_suc}
use Rattle.model.specs.Scheme.{Scheme}
use Rattle.model.proofs.EvenLaws.{Few}
use Rattle.even.specs.Walks.{source_of, target_of, weight_of, pair_weight}

-- a set of constraints
abbrev pub Set : Type 0
Set = ℕ → Bool

abbrev pub Within : Set → Set → Type 0
Within K L = (e : ℕ) → K e ≡ true → L e ≡ true

-- the sum of w over K's members below n
unfoldable pub weight : (ℕ → ℕ) → ℕ → Set → ℕ
weight w zero K = 0
weight w (suc n) K = weight w n K + cond (K n) (w n) 0

-- the sum of w over a list
unfoldable pub cost : (ℕ → ℕ) → List ℕ → ℕ
cost w [] = 0
cost w (i ∷ is) = w i + cost w is

-- steps along constraints of K from table t to table u, with their numbers
pub data Walk (S : Scheme) (K : Set) (u : ℕ) : ℕ → List ℕ → Type 0 where
  here : {t : ℕ} → t ≡ u → Walk S K u t []
  along : {t : ℕ} {is : List ℕ} (i : ℕ) → i < S.constraints → K i ≡ true → source_of S i ≡ t → Walk S K u (target_of S i) is → Walk S K u t (i ∷ is)

-- the constraints of K, kept without the others, are uneven
pub record UnevenSet (S : Scheme) (K : Set) : Type 0 where
  pub i : ℕ
  pub j : ℕ
  pub i-there : i < S.constraints
  pub j-there : j < S.constraints
  pub first : K i ≡ true
  pub second : K j ≡ true
  pub meet : target_of S i ≡ source_of S j
  pub apart : (S.constraint i).target.place ≡ (S.constraint j).source.place → ⊥
  pub steps : List ℕ
  pub back : Walk S K (source_of S i) (target_of S j) steps

pub walk-within : {S : Scheme} {K L : Set} {u t : ℕ} {is : List ℕ} → Within K L → Walk S K u t is → Walk S L u t is
walk-within h (here e) = here e
walk-within h (along i l k s p) = along i l (h i k) s (walk-within h p)

-- ---- weights

cond-le : (a b : Bool) (x : ℕ) → (a ≡ true → b ≡ true) → cond a x 0 ≤ cond b x 0
cond-le true b x h = rw (h refl) (omega arith)
cond-le false b x h = omega arith

weight-within : (w : ℕ → ℕ) (n : ℕ) (K L : Set) → Within K L → weight w n K ≤ weight w n L
unfolding weight
weight-within w zero K L h = omega arith
weight-within w (suc n) K L h = let a = weight-within w n K L h in let b = cond-le (K n) (L n) (w n) (h n) in omega arith

-- a member apart
weight-apart : (w : ℕ → ℕ) (n i : ℕ) (K L : Set) → Within K L → i < n → L i ≡ true → K i ≡ false → w i + weight w n K ≤ weight w n L
unfolding weight
weight-apart w zero i K L h l a b = absurd (not-suc-le-zero l)
weight-apart w (suc n) i K L h l a b = go (below_suc l) (λ m. weight-apart w n i K L h m a b)
  where
    go : (i ≡ n) ⊎ (i < n) → (i < n → w i + weight w n K ≤ weight w n L) → w i + (weight w n K + cond (K n) (w n) 0) ≤ weight w n L + cond (L n) (w n) 0
    go (inl e) ih = let g = weight-within w n K L h in rw (sym (ap K e) ∙ b, sym (ap L e) ∙ a, e) (omega arith)
    go (inr m) ih = let g = ih m in let c = cond-le (K n) (L n) (w n) (h n) in omega arith

-- ---- walks that do not come back

abbrev not_to : Scheme → ℕ → Set → Set
not_to S t K i = K i && not (eqb (target_of S i) t)

abbrev not_from : Scheme → ℕ → Set → Set
not_from S t K i = K i && not (eqb (source_of S i) t)

pub first-of : (a b : Bool) → a && b ≡ true → a ≡ true
first-of a b e = ((and-eq-true_iff a b).0 e).0

pub second-of : (a b : Bool) → a && b ≡ true → b ≡ true
second-of a b e = ((and-eq-true_iff a b).0 e).1

-- from x, without coming to t, or from t
beyond : {S : Scheme} {K : Set} {u x : ℕ} {is : List ℕ} (t : ℕ) → Walk S K u x is →
    ((js : List ℕ) × Walk S (not_to S t K) u x js) ⊎ ((js : List ℕ) × Walk S (not_to S t K) u t js)
beyond t (here e) = inl ([], here e)
beyond {S} {K} {u} {x} t (along i l k s p) =
    ⊎_elim
    (λ q.
    ⊎_elim (λ (e : eqb (target_of S i) t ≡ true). inr (q.0, subst (λ (y : ℕ). Walk S (not_to S t K) u y q.0) (eqb-true _ _ e) q.1))
    (λ (e : eqb (target_of S i) t ≡ false). inl (i ∷ q.0, along i l (both k (ap not e)) s q.1))
    (dec (eqb (target_of S i) t)))
    inr
    (beyond t p)

-- from t, without coming to t again
leave : {S : Scheme} {K : Set} {u t : ℕ} {is : List ℕ} → Walk S K u t is → (js : List ℕ) × Walk S (not_to S t K) u t js
leave {t = t} p = ⊎_elim (λ q. q) (λ q. q) (beyond t p)

-- no further than to u
arrive : {S : Scheme} {K : Set} {u t : ℕ} {is : List ℕ} → Walk S K u t is → (js : List ℕ) × Walk S (not_from S u K) u t js
arrive (here e) = ([], here e)
arrive {S} {K} {u} {t} (along i l k s p) =
    ⊎_elim (λ (e : eqb (source_of S i) u ≡ true). ([], here (sym s ∙ eqb-true _ _ e)))
    (λ (e : eqb (source_of S i) u ≡ false). let q = arrive p in (i ∷ q.0, along i l (both k (ap not e)) s q.1))
    (dec (eqb (source_of S i) u))

-- ---- short walks

-- the constraints of K end at tables of A
abbrev EndsIn : Scheme → Set → (ℕ → Bool) → Type 0
EndsIn S K A = (e : ℕ) → e < S.constraints → K e ≡ true → A (target_of S e) ≡ true

-- a walk in K that costs no more than K, and has no more steps than there are tables in A
pub record Short (S : Scheme) (K : Set) (A : ℕ → Bool) (u t : ℕ) : Type 0 where
  pub steps : List ℕ
  pub walk : Walk S K u t steps
  pub cheap : cost weight_of steps ≤ weight weight_of S.constraints K
  pub few : length steps ≤ count 8 A

shorten : {S : Scheme} (m : ℕ) {K : Set} {A : ℕ → Bool} {u t : ℕ} {is : List ℕ} → Few S → EndsIn S K A → count 8 A ≤ m → Walk S K u t is → Short S K A u t
unfolding cost
shorten zero f h b (here e) = record { steps = []; walk = here e; cheap = omega arith; few = omega arith }
shorten {S} zero {K} {A} f h b (along i l k s p) =
    absurd (omega (arith, count-more 8 (λ _. false) A (λ _ x. clash x refl) (target_of S i) (f i l) refl (h i l k)))
shorten (suc m) f h b (here e) = record { steps = []; walk = here e; cheap = omega arith; few = omega arith }
shorten {S} (suc m) {K} {A} {u} {t} f h b (along i l k s p) =
    let q = leave p in
    let L = not_to S (target_of S i) K in
    let in_l : Within L K = λ j x. first-of (K j) _ x in
    let out : L i ≡ false = refute (L i) (λ x. clash (eq-eqb (target_of S i) (target_of S i) refl) (not-true _ (second-of (K i) _ x))) in
    let B : ℕ → Bool = λ y. A y && not (eqb y (target_of S i)) in
    let ends : EndsIn S L B = λ e n x. both (h e n (in_l e x)) (second-of (K e) _ x) in
    let gone : B (target_of S i) ≡ false = refute (B (target_of S i)) (λ x. clash (eq-eqb (target_of S i) (target_of S i) refl) (not-true _ (second-of (A (target_of S i)) _ x))) in
    let a = count-more 8 B A (λ y x. first-of (A y) _ x) (target_of S i) (f i l) gone (h i l k) in
    let c = weight-apart weight_of S.constraints i L K in_l l k out in
    let r = shorten m {K = L} {A = B} {u = u} {t = target_of S i} f ends (omega arith) q.1 in
    record { steps = i ∷ r.steps; walk = along i l k s (walk-within in_l r.walk); cheap = omega (arith, r.cheap); few = omega (arith, r.few) }

-- ---- an uneven set weighs at least its pair and a short walk back

pub record Bounded (S : Scheme) (K : Set) (i j : ℕ) : Type 0 where
  pub steps : List ℕ
  pub walk : Walk S (λ _. true) (source_of S i) (target_of S j) steps
  pub cheap : pair_weight i j + cost weight_of steps ≤ weight weight_of S.constraints K
  pub few : length steps ≤ 7

pub bounded : {S : Scheme} (K : Set) → Few S → (U : UnevenSet S K) → Bounded S K U.i U.j
unfolding pair_weight
bounded {S} K f U =
    record {
      steps = r.steps;
      walk = walk-within (λ _ _. refl) r.walk;
      cheap = pair (dec (eqb i j));
      few = omega (arith, r.few, seven);
    }
  where
    i : ℕ
    i = U.i

    j : ℕ
    j = U.j

    n : ℕ
    n = S.constraints

    L : Set
    L = not_to S (target_of S j) K

    M : Set
    M = not_from S (source_of S i) L

    A : ℕ → Bool
    A y = not (eqb y (target_of S j))

    q : (js : List ℕ) × Walk S M (source_of S i) (target_of S j) js
    q = arrive (leave U.back).1

    in_k : Within M K
    in_k e x = first-of (K e) _ (first-of (L e) _ x)

    seven : count 8 A ≤ 7
    seven =
        omega (
          arith,
          count-more 8 A (λ _. true) (λ _ _. refl) (target_of S j) (f j U.j-there) (ap not (eq-eqb (target_of S j) (target_of S j) refl)) refl,
          count-le 8 (λ _. true),
        )

    r : Short S M A (source_of S i) (target_of S j)
    r = shorten (count 8 A) f (λ e _ x. second-of (K e) _ (first-of (L e) _ x)) (omega arith) q.1

    no-i : M i ≡ false
    no-i = refute (M i) (λ x. clash (eq-eqb (source_of S i) (source_of S i) refl) (not-true _ (second-of (L i) _ x)))

    no-j : M j ≡ false
    no-j = refute (M j) (λ x. clash (eq-eqb (target_of S j) (target_of S j) refl) (not-true _ (second-of (K j) _ (first-of (L j) _ x))))

    -- K without i
    R : Set
    R e = K e && not (eqb e i)

    pair : (eqb i j ≡ true) ⊎ (eqb i j ≡ false) → cond (eqb i j) (weight_of i) (weight_of i + weight_of j) + cost weight_of r.steps ≤ weight weight_of n K
    pair (inl e) = let a = weight-apart weight_of n i M K in_k U.i-there U.first no-i in rw e (omega (arith, r.cheap))
    pair (inr e) =
        let in_r : Within M R = λ x h. both (in_k x h) (ne-not x i (λ y. clash (rw y at h) no-i)) in
        let a = weight-apart weight_of n j M R in_r U.j-there (both U.second (ne-not j i (λ y. eqb-false i j e (sym y)))) no-j in
        let b = weight-apart weight_of n i R K (λ x h. first-of (K x) _ h) U.i-there U.first (refute (R i) (λ x. clash (eq-eqb i i refl) (not-true _ (second-of (K i) _ x)))) in
        rw e (omega (arith, r.cheap))
