-- The weight that is found is the least weight of an uneven set, and is that of some: of sets as tests of a number, and of rising lists. Assumes nothing.
use Prim.Native.Nat.{ℕ, zero, suc, ◌+◌, ◌≤◌, ◌<◌}
use native.Mathlib.Nat.{not-suc-le-zero}
use native.Mathlib.Omega.{arith}
use mathlib.Core.Path.{◌≡◌, refl, sym, ap, subst, ◌∙◌}
use mathlib.Core.Logic.{◌⊎◌, inl, inr, ⊎_elim}
use mathlib.Core.Bool.{Bool, true, false, not, cond, ◌||◌, and-eq-true_iff}
use mathlib.Core.List.{List, [], ◌∷◌, ◌++◌, append-nil, Memᴰ}
use borrow.Author.Tests.{eqb-true, eqb-false, eq-eqb, ne_eqb, not-true}
use lib.Dec.{eqb}
use lib.ListN.{length, get_or}
use Rattle.finite.specs.Finite.{collect}
use Rattle.finite.specs.Sameness.{listed}
use Rattle.finite.proofs.Bools.{dec, both, or_left, cond-true, cond-false, or-second}
use Rattle.finite.proofs.Collecting.{collect-has}
use Rattle.model.specs.Scheme.{Scheme}
use Rattle.model.specs.Even as Even
use Rattle.model.specs.Even.{Reaches}
use Rattle.model.specs.Knot.{kept, StillUneven, Rising, none, more, SetOf}
use Rattle.model.proofs.EvenLaws.{Few}
use Rattle.model.proofs.KnotOrder.{rising-at}
use Rattle.even.specs.Walks.{source_of, target_of, weight_of, far, cheapest, most_steps, pair_weight, turns_off, weight_with, weight_from, knot_weight}
use Rattle.even.proofs.Walks.{Set, Within, weight, cost, Walk, here, along, UnevenSet, walk-within, bounded}
use Rattle.even.proofs.Cheapest.{lowest-le, lowest-found, cheapest-le, cheapest-found}

-- ---- the set of a list

abbrev pub among : List ℕ → Set
among is e = listed eqb e is

unchanged : (w : ℕ → ℕ) (i : ℕ) (K : Set) (m : ℕ) → m ≤ i → weight w m (λ e. eqb i e || K e) ≤ weight w m K
unfolding weight
unchanged w i K zero l = omega arith
unchanged w i K (suc m) l =
    let a = unchanged w i K m (omega arith) in
    let b : (eqb i m || K m) ≡ K m = rw (ne_eqb i m (λ e. omega arith)) refl in
    rw b (omega arith)

with-one : (w : ℕ → ℕ) (n i : ℕ) (K : Set) → weight w n (λ e. eqb i e || K e) ≤ w i + weight w n K
unfolding weight
with-one w zero i K = omega arith
with-one w (suc n) i K = go (dec (eqb i n)) (with-one w n i K)
  where
    go : (eqb i n ≡ true) ⊎ (eqb i n ≡ false) → weight w n (λ e. eqb i e || K e) ≤ w i + weight w n K →
        weight w n (λ e. eqb i e || K e) + cond (eqb i n || K n) (w n) 0 ≤ w i + (weight w n K + cond (K n) (w n) 0)
    go (inl e) ih =
        let q = eqb-true i n e in
        let a = unchanged w i K n (omega arith) in
        let b : w i ≡ w n = ap w q in
        rw e (omega arith)
    go (inr e) ih = rw e (omega arith)

none-weigh : (w : ℕ → ℕ) (m : ℕ) → weight w m (λ _. false) ≤ 0
unfolding weight
none-weigh w zero = omega arith
none-weigh w (suc m) = omega (arith, none-weigh w m)

-- it weighs no more than the list costs
among-cost : (w : ℕ → ℕ) (n : ℕ) (is : List ℕ) → weight w n (among is) ≤ cost w is
unfolding listed cost
among-cost w n [] = none-weigh w n
among-cost w n (i ∷ is) = omega (arith, with-one w n i (among is), among-cost w n is)

among-head : (i : ℕ) (is : List ℕ) → among (i ∷ is) i ≡ true
unfolding listed
among-head i is = sym (or_left _ _ (eq-eqb i i refl))

among-tail : (i : ℕ) (is : List ℕ) → Within (among is) (among (i ∷ is))
unfolding listed
among-tail i is e x = or-second (eqb i e) (listed eqb e is) x

walk-own : {S : Scheme} {K : Set} {u t : ℕ} {is : List ℕ} → Walk S K u t is → Walk S (among is) u t is
walk-own (here e) = here e
walk-own (along {is = is} i l k s p) = along i l (among-head i is) s (walk-within (among-tail i is) (walk-own p))

-- ---- i, j and a walk

pair_list : ℕ → ℕ → List ℕ → List ℕ
pair_list i j is = cond (eqb i j) (i ∷ is) (i ∷ j ∷ is)

pair-cost : (i j : ℕ) (is : List ℕ) → cost weight_of (pair_list i j is) ≡ pair_weight i j + cost weight_of is
unfolding pair_list pair_weight cost
pair-cost i j is = ⊎_elim (λ (e : eqb i j ≡ true). rw e (omega arith)) (λ (e : eqb i j ≡ false). rw e (omega arith)) (dec (eqb i j))

pair-has : (i j : ℕ) (is : List ℕ) → (among (pair_list i j is) i ≡ true) × (among (pair_list i j is) j ≡ true) × Within (among is) (among (pair_list i j is))
unfolding pair_list
pair-has i j is =
    ⊎_elim
    (λ (e : eqb i j ≡ true). rw e (among-head i is, subst (λ (x : ℕ). among (i ∷ is) x ≡ true) (eqb-true i j e) (among-head i is), among-tail i is))
    (λ (e : eqb i j ≡ false).
    rw e (among-head i (j ∷ is), among-tail i (j ∷ is) j (among-head j is), λ x y. among-tail i (j ∷ is) x (among-tail j is x y)))
    (dec (eqb i j))

module _ (S : Scheme) where
  pub with-turn : (i j : ℕ) → turns_off (S.constraint i) (S.constraint j) ≡ true → weight_with S i j ≡ pair_weight i j + cheapest S (source_of S i) most_steps (target_of S j)
  unfolding weight_with
  with-turn i j e = cond-true (turns_off (S.constraint i) (S.constraint j)) _ _ e

  with_none : (i j : ℕ) → turns_off (S.constraint i) (S.constraint j) ≡ false → weight_with S i j ≡ far
  unfolding weight_with
  with_none i j e = cond-false (turns_off (S.constraint i) (S.constraint j)) _ _ e

  turns-if : (i j : ℕ) → target_of S i ≡ source_of S j → ((S.constraint i).target.place ≡ (S.constraint j).source.place → ⊥) →
      turns_off (S.constraint i) (S.constraint j) ≡ true
  unfolding turns_off
  turns-if i j m n = both (eq-eqb _ _ m) (ap not (ne_eqb _ _ n))

  turns-says : (i j : ℕ) → turns_off (S.constraint i) (S.constraint j) ≡ true →
      (target_of S i ≡ source_of S j) × ((S.constraint i).target.place ≡ (S.constraint j).source.place → ⊥)
  unfolding turns_off
  turns-says i j e =
      let a = (and-eq-true_iff (eqb (target_of S i) (source_of S j)) _).0 e in
      (eqb-true _ _ a.0, eqb-false _ _ (not-true _ a.1))

  -- no uneven set weighs less
  knot-least : Few S → (K : Set) → UnevenSet S K → knot_weight S ≤ weight weight_of S.constraints K
  unfolding knot_weight weight_from
  knot-least few K U =
      let b = bounded K few U in
      let t = turns-if U.i U.j U.meet U.apart in
      omega (
        arith,
        cheapest-le S (source_of S U.i) most_steps (target_of S U.j) b.steps b.walk b.few,
        with-turn U.i U.j t,
        lowest-le (weight_with S U.i) S.constraints U.j U.j-there,
        lowest-le (weight_from S) S.constraints U.i U.i-there,
        b.cheap,
      )

  -- a set that is uneven and weighs at most c
  record Weighs (c : ℕ) : Type 0 where
    pub set : Set
    pub uneven : UnevenSet S set
    pub light : weight weight_of S.constraints set ≤ c

  -- one weighs no more
  knot-found : knot_weight S < far → Weighs (knot_weight S)
  unfolding knot_weight weight_from
  knot-found l =
      let f = lowest-found (weight_from S) S.constraints l in
      let g = lowest-found (weight_with S f.0) S.constraints (omega (arith, f.2)) in
      subst Weighs (sym (f.2 ∙ g.2)) (go f.0 g.0 f.1 g.1 (omega (arith, f.2, g.2)) (dec (turns_off (S.constraint f.0) (S.constraint g.0))))
    where
      go : (i j : ℕ) → i < S.constraints → j < S.constraints → weight_with S i j < far →
          (turns_off (S.constraint i) (S.constraint j) ≡ true) ⊎ (turns_off (S.constraint i) (S.constraint j) ≡ false) → Weighs (weight_with S i j)
      go i j a b l (inr t) = absurd (omega (arith, with_none i j t))
      go i j a b l (inl t) =
          let z = with-turn i j t in
          let r = cheapest-found S (source_of S i) most_steps (target_of S j) (omega (arith, z)) in
          let u = turns-says i j t in
          let h = pair-has i j r.steps in
          record {
            set = among (pair_list i j r.steps);
            uneven = record {
              i = i;
              j = j;
              i-there = a;
              j-there = b;
              first = h.0;
              second = h.1;
              meet = u.0;
              apart = u.1;
              steps = r.steps;
              back = walk-within h.2 (walk-own r.walk);
            };
            light = omega (arith, among-cost weight_of S.constraints (pair_list i j r.steps), pair-cost i j r.steps, r.is, z);
          }

-- ---- rising lists

-- the members of a set, rising
abbrev pub members : ℕ → Set → List ℕ
members n K = collect n K (λ e. e ∷ [])

rising-end : {n i : ℕ} {ks : List ℕ} → Rising n i ks → i ≤ n → Rising (suc n) i (ks ++ (n ∷ []))
rising-end {n} {i} none h = let l : n < suc n = omega arith in more n h l none
rising-end {n} (more k a b r) h = let l : k < suc n = omega arith in more k a l (rising-end r b)

rising-more : {n i : ℕ} {ks : List ℕ} → Rising n i ks → Rising (suc n) i ks
rising-more none = none
rising-more {n} (more k a b r) = let l : k < suc n = omega arith in more k a l (rising-more r)

pub members-rising : (n : ℕ) (K : Set) → Rising n 0 (members n K)
unfolding collect
members-rising zero K = none
members-rising (suc n) K = go (K n) (members-rising n K)
  where
    go : (b : Bool) → Rising n 0 (members n K) → Rising (suc n) 0 (members n K ++ cond b (n ∷ []) [])
    go true r = rising-end r (omega arith)
    go false r = subst (Rising (suc n) 0) (sym (append-nil (members n K))) (rising-more r)

cost-append : (w : ℕ → ℕ) (is js : List ℕ) → cost w (is ++ js) ≡ cost w is + cost w js
unfolding cost
cost-append w [] js = omega arith
cost-append w (i ∷ is) js = omega (arith, cost-append w is js)

pub members-cost : (w : ℕ → ℕ) (n : ℕ) (K : Set) → cost w (members n K) ≡ weight w n K
unfolding collect weight cost
members-cost w zero K = refl
members-cost w (suc n) K = omega (arith, cost-append w (members n K) (cond (K n) (n ∷ []) []), members-cost w n K, one (K n))
  where
    one : (b : Bool) → cost w (cond b (n ∷ []) []) ≡ cond b (w n) 0
    one true = omega arith
    one false = refl

-- an element of a list stands at a place of it
place_of : {e : ℕ} {ks : List ℕ} → Memᴰ e ks → (p : ℕ) × (p < length ks) × (get_or ks p 0 ≡ e)
place_of (Memᴰ.head q) = (0, omega arith, sym q)
place_of (Memᴰ.tail m) = let r = place_of m in (suc r.0, omega (arith, r.1), r.2)

listed_at : (ks : List ℕ) (p : ℕ) → p < length ks → among ks (get_or ks p 0) ≡ true
listed_at [] p l = absurd (not-suc-le-zero l)
listed_at (k ∷ ks) zero l = among-head k ks
listed_at (k ∷ ks) (suc p) l = among-tail k ks (get_or ks p 0) (listed_at ks p (omega arith))

module _ (S : Scheme) where
  -- ---- from a list to its set

  list-walk : {ks : List ℕ} {u t : ℕ} → SetOf S ks → Reaches (kept S ks) u t → (is : List ℕ) × Walk S (among ks) u t is
  unfolding kept
  list-walk r (Even.here e) = ([], here e)
  list-walk {ks} r (Even.along i l e p) =
      let q = list-walk r p in
      (get_or ks i 0 ∷ q.0, along (get_or ks i 0) (rising-at r i l).1 (listed_at ks i l) (sym e) q.1)

  list-uneven : {ks : List ℕ} → SetOf S ks → StillUneven S ks → UnevenSet S (among ks)
  unfolding kept
  list-uneven {ks} r u =
      let c = u.2.cyclic in
      let q = list-walk r c.back in
      record {
        i = get_or ks u.0 0;
        j = get_or ks u.1 0;
        i-there = (rising-at r u.0 c.first).1;
        j-there = (rising-at r u.1 c.second).1;
        first = listed_at ks u.0 c.first;
        second = listed_at ks u.1 c.second;
        meet = c.meet;
        apart = u.2.apart;
        steps = q.0;
        back = q.1;
      }

  -- ---- from a set to its list

  module _ (K : Set) where
    place : (e : ℕ) → e < S.constraints → K e ≡ true → (p : ℕ) × (p < length (members S.constraints K)) × (get_or (members S.constraints K) p 0 ≡ e)
    place e l k = place_of (collect-has S.constraints K (λ e. e ∷ []) e l k (Memᴰ.head refl))

    set-reaches : {u t : ℕ} {is : List ℕ} → Walk S K u t is → Reaches (kept S (members S.constraints K)) u t
    unfolding kept
    set-reaches (here e) = Even.here e
    set-reaches {u} (along i l k s p) =
        let q = place i l k in
        Even.along q.0 q.1 (sym s ∙ ap (source_of S) (sym q.2))
        (subst (λ (e : ℕ). Reaches (kept S (members S.constraints K)) u (target_of S e)) (sym q.2) (set-reaches p))

    set-uneven : UnevenSet S K → StillUneven S (members S.constraints K)
    unfolding kept
    set-uneven U =
        let a = place U.i U.i-there U.first in
        let b = place U.j U.j-there U.second in (
          a.0,
          b.0,
          record {
            cyclic = record {
              first = a.1;
              second = b.1;
              meet = ap (target_of S) a.2 ∙ U.meet ∙ ap (source_of S) (sym b.2);
              back = subst (λ (e : ℕ). Reaches (kept S (members S.constraints K)) (source_of S e) (target_of S (get_or (members S.constraints K) b.0 0))) (sym a.2)
                  (subst (λ (e : ℕ). Reaches (kept S (members S.constraints K)) (source_of S U.i) (target_of S e)) (sym b.2) (set-reaches U.back));
            };
            apart = λ e. U.apart (ap (λ (x : ℕ). (S.constraint x).target.place) (sym a.2) ∙ e ∙ ap (λ (x : ℕ). (S.constraint x).source.place) b.2);
          },
        )

  -- ---- the weight that is found

  -- no uneven list costs less
  pub least-list : Few S → (ks : List ℕ) → SetOf S ks → StillUneven S ks → knot_weight S ≤ cost weight_of ks
  least-list few ks r u = omega (arith, knot-least S few (among ks) (list-uneven r u), among-cost weight_of S.constraints ks)

  -- and one costs as much: the members of a set
  pub record Lightest : Type 0 where
    pub set : Set
    pub uneven : StillUneven S (members S.constraints set)
    pub weighs : weight weight_of S.constraints set ≡ knot_weight S

  pub found-list : Few S → knot_weight S < far → Lightest
  found-list few l =
      let f = knot-found S l in
      record {
        set = f.set;
        uneven = set-uneven f.set f.uneven;
        weighs = omega (arith, f.light, knot-least S few f.set f.uneven);
      }
