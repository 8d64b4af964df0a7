-- The report of the smallest knot means what document 02 says: the knot is uneven, no smaller set is, it comes first among equals, taking any one constraint
-- out leaves an even design, and `even` is answered exactly of an even design (02, Req 11). Assumes nothing.
use Prim.Native.Nat.{ℕ, zero, suc, ◌+◌, ◌≤◌, ◌<◌}
use native.Mathlib.Decide.{dec_lt}
use native.Mathlib.Omega.{arith}
use mathlib.Core.Path.{◌≡◌, refl, sym, ap, subst, ◌∙◌}
use mathlib.Core.Logic.{◌↔◌, ◌⊎◌, inl, inr, ⊎_elim}
use mathlib.Core.Bool.{Bool, true, false}
use mathlib.Core.List.{List, ◌∷◌}
use borrow.Author.Tests.{eq-eqb, ne_eqb, ltb-true, ltb-false, lt-ltb}
use lib.Dec.{eqb, ltb}
use lib.ListN.{length}
use Rattle.finite.specs.Finite.{tab}
use Rattle.finite.specs.Sameness.{listed, remove}
use Rattle.finite.proofs.Bools.{dec, clash, same_number, cond-true, cond-false}
use Rattle.finite.proofs.Tables.{length-tab, tab-at}
use Rattle.finite.proofs.Sameness.{listed-place, remove-length}
use Rattle.model.specs.Scheme.{Scheme, Constraint}
use Rattle.model.specs.Even.{Reaches, here, along, Uneven, Even, lowest_uneven, uneven_from}
use Rattle.model.specs.Knot.{kept, StillUneven, Rising, none, more, Before, lower, same, SetOf, Knot, is_uneven_scheme, knot_of}
use Rattle.model.specs.Answers.{Answer, even, knot, shown, knot_answer}
use Rattle.model.proofs.EvenLaws.{Few, lowest-found, none-even, even-none}
use Rattle.model.proofs.KnotOrder.{rising-at, rising-from, Earlier, first-in-order}

-- ---- constraints under other numbers

-- each constraint of S is one of T
pub record Found-in (S T : Scheme) (f : ℕ → ℕ) : Type 0 where
  pub there : (i : ℕ) → i < S.constraints → f i < T.constraints
  pub is : (i : ℕ) → i < S.constraints → T.constraint (f i) ≡ S.constraint i

module _ {S T : Scheme} {f : ℕ → ℕ} (m : Found-in S T f) where
  reach-in : {u t : ℕ} → Reaches S u t → Reaches T u t
  reach-in (here e) = here e
  reach-in {u = u} (along i l e r) =
      along (f i) (m.there i l) (e ∙ sym (ap (λ (c : Constraint). c.source.table) (m.is i l)))
      (subst (λ (c : Constraint). Reaches T u c.target.table) (sym (m.is i l)) (reach-in r))

  pub uneven-in : {i j : ℕ} → Uneven S i j → Uneven T (f i) (f j)
  uneven-in {i} {j} u =
      let c = u.cyclic in
      let a = m.is i c.first in
      let b = m.is j c.second in
      record {
        cyclic = record {
          first = m.there i c.first;
          second = m.there j c.second;
          meet = ap (λ (x : Constraint). x.target.table) a ∙ c.meet ∙ sym (ap (λ (x : Constraint). x.source.table) b);
          back = subst (λ (x : ℕ). Reaches T x (T.constraint (f j)).target.table) (sym (ap (λ (x : Constraint). x.source.table) a))
              (subst (λ (x : Constraint). Reaches T (S.constraint i).source.table x.target.table) (sym b) (reach-in c.back));
        };
        apart = λ e. u.apart (sym (ap (λ (x : Constraint). x.target.place) a) ∙ e ∙ ap (λ (x : Constraint). x.source.place) b);
      }

-- ---- the tests say what they are named for

module _ (S : Scheme) (few : Few S) where
  says-uneven : is_uneven_scheme S ≡ true → (i : ℕ) × (j : ℕ) × Uneven S i j
  unfolding is_uneven_scheme
  says-uneven e = (lowest_uneven S, uneven_from S (lowest_uneven S), (lowest-found S few (ltb-true _ _ e)).uneven)

  is-uneven : (i j : ℕ) → Uneven S i j → is_uneven_scheme S ≡ true
  unfolding is_uneven_scheme Even
  is-uneven i j u = go (dec_lt (lowest_uneven S) S.constraints)
    where
      go : Dec (lowest_uneven S < S.constraints) → ltb (lowest_uneven S) S.constraints ≡ true
      go (yes l) = lt-ltb _ _ l
      go (no l) = absurd (u.apart (none-even S few (omega arith) i j u.cyclic))

  says-even : is_uneven_scheme S ≡ false → Even S
  unfolding is_uneven_scheme
  says-even e = none-even S few (ltb-false _ _ e)

  is-even : Even S → is_uneven_scheme S ≡ false
  unfolding is_uneven_scheme
  is-even e = go (dec (ltb (lowest_uneven S) S.constraints))
    where
      go : (ltb (lowest_uneven S) S.constraints ≡ true) ⊎ (ltb (lowest_uneven S) S.constraints ≡ false) → ltb (lowest_uneven S) S.constraints ≡ false
      go (inl t) = absurd (omega (arith, ltb-true (lowest_uneven S) S.constraints t, even-none S e))
      go (inr t) = t

-- ---- sets of constraints

-- all numbers below n
whole-rising : (n m i : ℕ) (f : ℕ → ℕ) → ((k : ℕ) → f k ≡ i + k) → i + m ≤ n → Rising n i (tab m f)
unfolding tab
whole-rising n zero i f e l = none
whole-rising n (suc m) i f e l =
    let a : i ≤ f 0 = omega (arith, e 0) in
    let b : f 0 < n = omega (arith, e 0) in
    more (f 0) a b (whole-rising n m (suc (f 0)) (λ k. f (suc k)) (λ k. omega (arith, e 0, e (suc k))) (omega (arith, e 0)))

-- two lists don't each come before the other
before-once : {ks ls : List ℕ} → Before ks ls → Before ls ks → ⊥
before-once (lower a) (lower b) = omega arith
before-once (lower a) (same e b) = omega arith
before-once (same e a) (lower b) = omega arith
before-once (same e a) (same f b) = before-once a b

-- a set without a number
without-rising : {n i : ℕ} {ks : List ℕ} (k : ℕ) → Rising n i ks → Rising n i (remove eqb k ks)
unfolding remove
without-rising k none = none
without-rising {n} {i} k (more {ks = ks} j a b r) =
    ⊎_elim
    (λ (t : eqb j k ≡ true). subst (Rising n i) (sym (cond-true (eqb j k) ks (j ∷ remove eqb k ks) t)) (rising-from {j = i} (omega arith) r))
    (λ (t : eqb j k ≡ false). subst (Rising n i) (sym (cond-false (eqb j k) ks (j ∷ remove eqb k ks) t)) (more {i = i} j a b (without-rising k r)))
    (dec (eqb j k))

module _ (S : Scheme) (few : Few S) where
  set-few : {ks : List ℕ} → SetOf S ks → Few (kept S ks)
  unfolding kept
  set-few r p l = few _ (rising-at r p l).1

  -- a set of constraints that is uneven makes the design uneven
  pub kept-uneven : {ks : List ℕ} → SetOf S ks → StillUneven S ks → is_uneven_scheme S ≡ true
  unfolding kept
  kept-uneven {ks} r u = is-uneven S few _ _ (uneven-in (record { there = λ i l. (rising-at r i l).1; is = λ i l. refl }) u.2)

  -- ---- the first set in order that is still uneven

  abbrev is_still : List ℕ → Bool
  is_still ks = is_uneven_scheme (kept S ks)

  -- it comes no later than any other
  no-later : (ks : List ℕ) → SetOf S ks → StillUneven S ks → SetOf S (knot_of S) × (is_still (knot_of S) ≡ true) × ((knot_of S ≡ ks) ⊎ Earlier (knot_of S) ks)
  unfolding knot_of
  no-later ks r u = first-in-order S.constraints is_still ks r (is-uneven (kept S ks) (set-few r) _ _ u.2)

  whole : List ℕ
  whole = tab S.constraints (λ i. i)

  whole-uneven : is_uneven_scheme S ≡ true → SetOf S whole × StillUneven S whole
  unfolding kept whole
  whole-uneven e =
      let n = S.constraints in
      let u = says-uneven S few e in (
        whole-rising n n 0 (λ i. i) (λ k. omega arith) (omega arith),
        (
          u.0,
          u.1,
          uneven-in
              (record { there = λ i l. omega (arith, length-tab n (λ i. i)); is = λ i l. ap S.constraint (tab-at 0 n (λ i. i) i l) })
              u.2,
        ),
      )

  pub knot-is : is_uneven_scheme S ≡ true → Knot S (knot_of S)
  knot-is e =
      let w = whole-uneven e in
      let f = no-later whole w.0 w.1 in
      record {
        rising = f.0;
        uneven = says-uneven (kept S (knot_of S)) (set-few f.0) f.1;
        fewest = λ ls r u. ⊎_elim (λ (q : knot_of S ≡ ls). omega (arith, ap length q)) (⊎_elim (λ q. omega (arith, q)) (λ q. omega (arith, q.0))) (no-later ls r u).2;
        first = λ ls r u l. ⊎_elim inl (⊎_elim (λ q. absurd (omega (arith, q))) (λ q. inr q.1)) (no-later ls r u).2;
      }

  -- there is only one
  pub knot-once : {ks ls : List ℕ} → Knot S ks → Knot S ls → ks ≡ ls
  knot-once {ks} {ls} a b =
      let l : length ks ≡ length ls = omega (arith, a.fewest ls b.rising b.uneven, b.fewest ks a.rising a.uneven) in
      ⊎_elim (λ e. e)
      (λ x. ⊎_elim (λ e. sym e) (λ y. absurd (before-once x y)) (b.first ks a.rising a.uneven (sym l)))
      (a.first ls b.rising b.uneven l)

  -- ---- the report

  pub knot-answered : is_uneven_scheme S ≡ true → knot_answer S ≡ knot (knot_of S)
  unfolding knot_answer
  knot-answered e = rw e

  pub even-answered : is_uneven_scheme S ≡ false → knot_answer S ≡ even
  unfolding knot_answer
  even-answered e = rw e

  -- the two words differ
  apart : {A : Type 0} {ks : List ℕ} → knot ks ≡ even → A
  unfolding shown
  apart e = clash (eq-eqb 11 11 refl) (ap (λ (a : Answer). eqb (shown a).word 11) e ∙ ne_eqb 8 11 (λ q. omega arith))

  -- THE REPORT: `even` exactly of an even design
  pub knot-even : (knot_answer S ≡ even) ↔ Even S
  knot-even = (λ e. to e (dec (is_uneven_scheme S)), λ e. even-answered (is-even S few e))
    where
      to : knot_answer S ≡ even → (is_uneven_scheme S ≡ true) ⊎ (is_uneven_scheme S ≡ false) → Even S
      to e (inl t) = apart (sym (knot-answered t) ∙ e)
      to e (inr t) = says-even S few t

  -- and `knot` with the numbers of the smallest knot
  pub knot-answer : (ks : List ℕ) → (knot_answer S ≡ knot ks) ↔ Knot S ks
  unfolding shown
  knot-answer ks = (λ e. to e (dec (is_uneven_scheme S)), λ k. from k (kept-uneven k.rising k.uneven))
    where
      to : knot_answer S ≡ knot ks → (is_uneven_scheme S ≡ true) ⊎ (is_uneven_scheme S ≡ false) → Knot S ks
      to e (inl t) = subst (Knot S) (ap (λ (a : Answer). (shown a).numbers) (sym (knot-answered t) ∙ e)) (knot-is t)
      to e (inr t) = apart (sym e ∙ even-answered t)

      from : Knot S ks → is_uneven_scheme S ≡ true → knot_answer S ≡ knot ks
      from k t = knot-answered t ∙ ap knot (knot-once (knot-is t) k)

  -- "taking any one constraint out of the printed set leaves an even one"
  pub knot-less : {ks : List ℕ} → Knot S ks → (k : ℕ) → listed eqb k ks ≡ true → Even (kept S (remove eqb k ks))
  unfolding Even
  knot-less {ks} x k h i j c = ⊎_elim (λ e. e) (λ e. absurd (fewer (i, j, record { cyclic = c; apart = e }))) (same_number _ _)
    where
      shorter : length (remove eqb k ks) + 1 ≡ length ks
      shorter = remove-length eqb 0 k ks (ltb-true _ _ (listed-place eqb 0 k ks ∙ h))

      fewer : StillUneven S (remove eqb k ks) → ⊥
      fewer u = omega (arith, x.fewest (remove eqb k ks) (without-rising k x.rising) u, shorter)
