-- What the loops of the smallest knot keep: a round's costs so far, the lowest weight so far. Assumes nothing.
use Prim.Native.Nat.{ℕ, zero, suc, ◌+◌, ◌-◌, ◌*◌, ◌/◌, ◌%◌, ◌^◌, ◌≤◌, ◌<◌, min}
use native.Mathlib.Numerals.{add-one}
use native.Mathlib.Omega.{arith}
use mathlib.Core.Path.{◌≡◌, refl, sym, ap, ap₂, subst, ◌∙◌}
use mathlib.Core.Logic.{◌⊎◌, inl, inr, ⊎_elim}
use mathlib.Core.Bool.{Bool, true, false, not, cond, ◌&&◌}
use mathlib.Core.List.{List}
use borrow.Author.Tests.{eq-eqb, ne_eqb, lt-ltb, le-ltb, ltb-true, ltb-false}
use lib.Dec.{eqb, ltb}
use lib.ListN.{length, get_or, set, replicate, length-set, get_or-eq_default}
use lib.Seq.{get_or-set_same, get_or-set_other}
use Rattle.finite.proofs.Bools.{dec, both, same_number, order, and-go, and-stop, and_left, and_right, cond-true, cond-false}
use Rattle.finite.proofs.Tables.{tab-at, replicate-tab, ltb_next}
use Rattle.model.specs.Scheme.{Constraint, Scheme}
use Rattle.state.specs.declared.design.Constraint as State
use Rattle.state.specs.declared.design.Design.{Design}
use Rattle.state.specs.Design.{no_constraint, InRange}
use Rattle.state.specs.Meaning.{constraint_of, scheme_of}
use Rattle.even.specs.Reading.{Laid}
use Rattle.even.specs.Walks.{source_of, target_of, weight_of, far, lowest, onward, cheapest, most_steps, pair_weight, turns_off, weight_with, weight_from, knot_weight, Cheap, Stepped}
use Rattle.even.proofs.Cheapest.{lowest-far, on-here, on-other, cheapest-far}
use Rattle.even.proofs.KnotMask.{moved, weighs}

-- ---- weights

pub weighed : (e : ℕ) → e < 16 → 65536 - 32768 / 2 ^ e ≡ weight_of e
weighed e l = ap (λ (x : ℕ). 65536 - x) (moved e l)

pub bit-fits : (e : ℕ) → e < 16 → 32768 / 2 ^ e ≤ 65536
bit-fits e l = omega (arith, moved e l, weighs e l)

module _ (i j : ℕ) where
  pub pair_one : i ≡ j → weight_of i ≡ pair_weight i j
  unfolding pair_weight
  pair_one e = sym (cond-true (eqb i j) _ _ (eq-eqb i j e))

  pub pair-two : (i ≡ j → ⊥) → weight_of i + weight_of j ≡ pair_weight i j
  unfolding pair_weight
  pair-two e = sym (cond-false (eqb i j) _ _ (ne_eqb i j e))

  pub pair_fits : i < 16 → j < 16 → pair_weight i j ≤ 131072
  pair_fits a b = ⊎_elim (λ e. omega (arith, pair_one e, weighs i a)) (λ e. omega (arith, pair-two e, weighs i a, weighs j b)) (same_number i j)

-- ---- the lowest so far

pub lowest-none : (f : ℕ → ℕ) → far ≡ lowest 0 f
unfolding lowest
lowest-none f = refl

pub lowest-more : (f : ℕ → ℕ) (n : ℕ) {a b m : ℕ} → a ≡ lowest n f → b ≡ f n → m ≡ min a b → m ≡ lowest (n + 1) f
unfolding lowest
lowest-more f n p q r = r ∙ (λ x. min (p x) (q x)) ∙ sym (ap (λ (k : ℕ). lowest k f) (add-one n))

pub lowest-end : (f : ℕ → ℕ) (n m : ℕ) {a : ℕ} → n ≤ m → m ≤ n → a ≡ lowest n f → a ≡ lowest m f
lowest-end f n m l h p = let e : n ≡ m = omega arith in p ∙ ap (λ (k : ℕ). lowest k f) e

lowest-same : (f g : ℕ → ℕ) (n : ℕ) → ((i : ℕ) → f i ≡ g i) → lowest n f ≡ lowest n g
unfolding lowest
lowest-same f g zero h = refl
lowest-same f g (suc n) h = λ x. min (lowest-same f g n h x) (h n x)

-- ---- a step

-- places in the array
apart : (s k x u : ℕ) → k < 8 → u < 8 → ((x ≡ s) × (u ≡ k) → ⊥) → 8 * x + u ≡ 8 * s + k → ⊥
apart s k x u a b n e = let p : x ≡ s = omega arith in let q : u ≡ k = omega arith in n (p, q)

module _ (costs next : List ℕ) (s t w : ℕ) where
  pub step_start : Stepped costs next s t w 0 next
  step_start = record { long = refl; row = λ u l. absurd (omega arith); others = λ x u l n. refl }

  pub step-more : (k : ℕ) (now : List ℕ) → Stepped costs next s t w k now → k < 8 → s < 8 → length next ≡ 64 → (v : ℕ) →
      v ≡ min (get_or now (8 * s + k) 0) (w + get_or costs (8 * t + k) 0) → Stepped costs next s t w (k + 1) (set now (8 * s + k) v)
  step-more k now r lk ls long v e =
      record {
        long = length-set now (8 * s + k) v ∙ r.long;
        row = λ u l.
            ⊎_elim
            (λ (q : u ≡ k).
            subst (λ (y : ℕ). get_or (set now (8 * s + k) v) (8 * s + y) 0 ≡ min (get_or next (8 * s + y) 0) (w + get_or costs (8 * t + y) 0)) (sym q)
            (get_or-set_same now (8 * s + k) v 0 (omega (arith, r.long)) ∙ e ∙
            ap (λ (y : ℕ). min y (w + get_or costs (8 * t + k) 0)) (r.others s k lk (λ p. omega (arith, p.1)))))
            (λ (q : u ≡ k → ⊥).
            get_or-set_other now (8 * s + k) (8 * s + u) v 0 (λ p. q (omega arith)) ∙
            r.row u (le-ne u k q l))
            (same_number u k);
        others = λ x u l n.
            get_or-set_other now (8 * s + k) (8 * x + u) v 0 (apart s k x u lk l (λ p. n (p.0, omega (arith, p.1)))) ∙
            r.others x u l (λ p. n (p.0, omega (arith, p.1)));
      }
    where
      le-ne : (u k : ℕ) → (u ≡ k → ⊥) → u < k + 1 → u < k
      le-ne u k q l = ⊎_elim (λ (h : u < k). h) (⊎_elim (λ (h : u ≡ k). absurd (q h)) (λ (h : k < u). absurd (omega arith))) (order u k)

  pub step_end : (k : ℕ) (now : List ℕ) → Stepped costs next s t w k now → k ≤ 8 → 8 ≤ k → Stepped costs next s t w 8 now
  step_end k now r a b = let e : k ≡ 8 = omega arith in subst (λ (x : ℕ). Stepped costs next s t w x now) e r

-- ---- a round

-- the cost from each table to table u with the first e constraints
module _ (S : Scheme) (costs : List ℕ) where
  abbrev old : ℕ → ℕ → ℕ
  old u t = get_or costs (8 * t + u) 0

  abbrev new : ℕ → ℕ → ℕ → ℕ
  new e u t = min (old u t) (lowest e (onward S (old u) t))

  pub record Rounded (e : ℕ) (next : List ℕ) : Type 0 where
    pub long : length next ≡ 64
    pub at : (t u : ℕ) → t < 8 → u < 8 → get_or next (8 * t + u) 0 ≡ new e u t

  pub round-start : length costs ≡ 64 → ((x : ℕ) → get_or costs x 0 ≤ far) → Rounded 0 costs
  unfolding lowest
  round-start l h = record { long = l; at = λ t u _ _. omega (arith, h (8 * t + u)) }

  pub round-more : (e : ℕ) (next next' : List ℕ) (w : ℕ) → Rounded e next → w ≡ weight_of e →
      Stepped costs next (source_of S e) (target_of S e) w 8 next' → Rounded (e + 1) next'
  unfolding lowest
  round-more e next next' w r a q =
      record {
        long = q.long ∙ r.long;
        at = λ t u l h.
            ⊎_elim
            (λ (p : source_of S e ≡ t).
            subst (λ (x : ℕ). x < 8 → get_or next' (8 * x + u) 0 ≡ new (e + 1) u x) p
            (λ b. q.row u h ∙ here u (r.at (source_of S e) u b h) a ∙ sym (grown u (source_of S e))) l)
            (λ (p : source_of S e ≡ t → ⊥). q.others t u h (λ x. p (sym x.0)) ∙ r.at t u l h ∙ there u t p ∙ sym (grown u t))
            (same_number (source_of S e) t);
      }
    where
      -- with one constraint more
      grown : (u t : ℕ) → new (e + 1) u t ≡ min (old u t) (min (lowest e (onward S (old u) t)) (onward S (old u) t e))
      grown u t = ap (λ (k : ℕ). new k u t) (add-one e)

      here : (u : ℕ) {x y : ℕ} → x ≡ new e u (source_of S e) → y ≡ weight_of e → min x (y + old u (target_of S e)) ≡
          min (old u (source_of S e)) (min (lowest e (onward S (old u) (source_of S e))) (onward S (old u) (source_of S e) e))
      here u p a = omega (arith, p, a, on-here S 0 (old u) (source_of S e) e refl)

      there : (u t : ℕ) → (source_of S e ≡ t → ⊥) → new e u t ≡ min (old u t) (min (lowest e (onward S (old u) t)) (onward S (old u) t e))
      there u t p = omega (arith, on-other S 0 (old u) t e p, lowest-far (onward S (old u) t) e)

  -- after a round of walks of one step more
  pub round-end : (m e n : ℕ) (next : List ℕ) → Cheap S m costs → ((i : ℕ) → target_of S i < 8) → n ≡ S.constraints → e ≤ n → n ≤ e → Rounded e next →
      Cheap S (m + 1) next
  unfolding cheapest onward
  round-end m e n next c few z a b r =
      let q : e ≡ S.constraints = omega arith in
      record {
        long = r.long;
        at = λ t u l h.
            r.at t u l h ∙ ap (λ (k : ℕ). new k u t) q ∙
            (λ x. min (c.at t u l h x)
            (lowest-same (onward S (old u) t) (onward S (cheapest S u m) t) S.constraints
            (λ i. ap (λ (y : ℕ). cond (eqb (source_of S i) t) (weight_of i + y) far) (c.at (target_of S i) u (few i) h)) x)) ∙
            ap (λ (k : ℕ). cheapest S u k t) (sym (add-one m));
      }

-- ---- the rounds

-- every place of the array is that of two tables
split : (x : ℕ) → (t : ℕ) × (u : ℕ) × (u < 8) × (x ≡ 8 * t + u)
split x = (x / 8, x % 8, omega arith, omega arith)

module _ (S : Scheme) (m : ℕ) (costs : List ℕ) (c : Cheap S m costs) where
  pub cheap-far : (x : ℕ) → get_or costs x 0 ≤ far
  cheap-far x =
      let p = split x in
      ⊎_elim
      (λ (e : ltb x 64 ≡ true). let l = ltb-true x 64 e in
      omega (arith, p.3, p.2, ap (λ (y : ℕ). get_or costs y 0) p.3, c.at p.0 p.1 (omega (arith, p.3)) p.2, cheapest-far S p.1 m p.0))
      (λ (e : ltb x 64 ≡ false). let h : length costs ≤ x = omega (arith, c.long, ltb-false x 64 e) in omega (arith, get_or-eq_default costs 0 h))
      (dec (ltb x 64))

-- the walks of no step from the tables below k are set
pub record Started (k : ℕ) (costs : List ℕ) : Type 0 where
  pub long : length costs ≡ 64
  pub at : (t u : ℕ) → t < 8 → u < 8 → get_or costs (8 * t + u) 0 ≡ cond (ltb t k && eqb t u) 0 far

pub none-started : Started 0 (replicate 64 far)
none-started =
    record {
      long = refl;
      at = λ t u l h.
          ap (λ (xs : List ℕ). get_or xs (8 * t + u) 0) (replicate-tab 64 far) ∙ tab-at 0 64 (λ _. far) (8 * t + u) (omega arith) ∙
          sym (cond-false (ltb t 0 && eqb t u) 0 far (and_left (ltb t 0) (eqb t u) (le-ltb t 0 (omega arith))));
    }

pub more-started : (k : ℕ) (costs : List ℕ) → Started k costs → k < 8 → Started (k + 1) (set costs (9 * k) 0)
more-started k costs r lk =
    record {
      long = length-set costs (9 * k) 0 ∙ r.long;
      at = λ t u l h.
          ⊎_elim
          (λ (e : (t ≡ k) × (u ≡ k)).
          subst (λ (x : ℕ). get_or (set costs (9 * k) 0) x 0 ≡ cond (ltb t (k + 1) && eqb t u) 0 far) (sym (omega (arith, e.0, e.1)))
          (get_or-set_same costs (9 * k) 0 0 (omega (arith, r.long)) ∙
          sym (cond-true (ltb t (k + 1) && eqb t u) 0 far (both (lt-ltb t (k + 1) (omega (arith, e.0))) (eq-eqb t u (omega (arith, e.0, e.1)))))))
          (λ (e : (t ≡ k) × (u ≡ k) → ⊥).
          get_or-set_other costs (9 * k) (8 * t + u) 0 0 (λ q. e (omega arith, omega arith)) ∙ r.at t u l h ∙
          ap (λ (b : Bool). cond b 0 far) (same-before t u e))
          (here-or-not t u);
    }
  where
    here-or-not : (t u : ℕ) → ((t ≡ k) × (u ≡ k)) ⊎ ((t ≡ k) × (u ≡ k) → ⊥)
    here-or-not t u =
        ⊎_elim (λ (a : t ≡ k). ⊎_elim (λ (b : u ≡ k). inl (a, b)) (λ (b : u ≡ k → ⊥). inr (λ p. b p.1)) (same_number u k)) (λ (a : t ≡ k → ⊥). inr (λ p. a p.0)) (same_number t k)

    same-before : (t u : ℕ) → ((t ≡ k) × (u ≡ k) → ⊥) → ltb t k && eqb t u ≡ ltb t (k + 1) && eqb t u
    same-before t u e =
        ⊎_elim
        (λ (a : t ≡ k).
        and_right (ltb t k) (eqb t u) (ne_eqb t u (λ q. e (a, sym q ∙ a))) ∙ sym (and_right (ltb t (k + 1)) (eqb t u) (ne_eqb t u (λ q. e (a, sym q ∙ a)))))
        (λ (a : t ≡ k → ⊥). ap (λ (b : Bool). b && eqb t u) (ltb_next t k a))
        (same_number t k)

pub all-started : (S : Scheme) (k : ℕ) (costs : List ℕ) → Started k costs → k ≤ 8 → 8 ≤ k → Cheap S 0 costs
unfolding cheapest
all-started S k costs r a b =
    record {
      long = r.long;
      at = λ t u l h. r.at t u l h ∙ ap (λ (x : Bool). cond x 0 far) (sym (and-go (ltb t k) (eqb t u) (lt-ltb t k (omega arith)) refl));
    }

pub cheap-next : (S : Scheme) (r : ℕ) (costs : List ℕ) → 1 ≤ r → Cheap S (r - 1 + 1) costs → Cheap S (r + 1 - 1) costs
cheap-next S r costs l c = let q : r - 1 + 1 ≡ r + 1 - 1 = omega arith in subst (λ (m : ℕ). Cheap S m costs) q c

pub cheap-end : (S : Scheme) (r : ℕ) (costs : List ℕ) → r ≤ 8 → 8 ≤ r → Cheap S (r - 1) costs → Cheap S 7 costs
cheap-end S r costs a b c = let q : r ≡ 8 = omega arith in subst (λ (k : ℕ). Cheap S (k - 1) costs) q c

-- ---- a pair with its walk back

pub with-walk : (S : Scheme) (n : ℕ) (cs : List State.Constraint) → Laid S n cs → (i j : ℕ) (costs : List ℕ) → Cheap S most_steps costs →
    (get_or cs i no_constraint).source.table < 8 → (get_or cs j no_constraint).target.table < 8 → (x w : ℕ) →
    x ≡ 8 * (get_or cs j no_constraint).target.table + (get_or cs i no_constraint).source.table →
    w ≡ cond (turns_off (constraint_of (get_or cs i no_constraint)) (constraint_of (get_or cs j no_constraint))) (pair_weight i j + get_or costs x 0) far → w ≡ weight_with S i j
unfolding weight_with
with-walk S n cs l i j costs c a b x w e q =
    q ∙ ap (λ (y : ℕ). cond (turns_off (constraint_of (get_or cs i no_constraint)) (constraint_of (get_or cs j no_constraint))) (pair_weight i j + y) far)
    (ap (λ (y : ℕ). get_or costs y 0) e ∙ c.at (get_or cs j no_constraint).target.table (get_or cs i no_constraint).source.table b a) ∙
    sym (ap₂ (λ y z. cond (turns_off y z) (pair_weight i j + cheapest S y.source.table most_steps z.target.table) far) (l.at i) (l.at j))

module _ (a b : Constraint) (p : ℕ) where
  pub turn-none : (a.target.table ≡ b.source.table → ⊥) → far ≡ cond (turns_off a b) p far
  unfolding turns_off
  turn-none n = sym (cond-false (turns_off a b) p far (sym (and-stop _ _ (ne_eqb _ _ n))))

  pub turn-same : a.target.place ≡ b.source.place → far ≡ cond (turns_off a b) p far
  unfolding turns_off
  turn-same e = sym (cond-false (turns_off a b) p far (and_right (eqb a.target.table b.source.table) _ (ap not (eq-eqb _ _ e))))

  pub turn-off : a.target.table ≡ b.source.table → (a.target.place ≡ b.source.place → ⊥) → (w : ℕ) → w ≡ p → w ≡ cond (turns_off a b) p far
  unfolding turns_off
  turn-off e n w q = q ∙ sym (cond-true (turns_off a b) p far (both (eq-eqb _ _ e) (ap not (ne_eqb _ _ n))))

-- ---- the end of the two loops over the pairs

module _ (d : Design) (w j : ℕ) where
  pub weight-end : (i : ℕ) → j ≤ d.constraints → d.constraints ≤ j → w ≡ lowest j (weight_with (scheme_of d) i) → w ≡ weight_from (scheme_of d) i
  unfolding weight_from scheme_of
  weight-end i a b e = lowest-end _ j d.constraints a b e

  pub knot-end : j ≤ d.constraints → d.constraints ≤ j → w ≡ lowest j (weight_from (scheme_of d)) → w ≡ knot_weight (scheme_of d)
  unfolding knot_weight scheme_of
  knot-end a b e = lowest-end _ j d.constraints a b e

-- ---- a round over an array of constraints

pub round-read : (S : Scheme) (n : ℕ) (cs : List State.Constraint) → Laid S n cs → (costs : List ℕ) (e : ℕ) (next next' : List ℕ) (w : ℕ) → Rounded S costs e next → w ≡ weight_of e →
    Stepped costs next (get_or cs e no_constraint).source.table (get_or cs e no_constraint).target.table w 8 next' → Rounded S costs (e + 1) next'
round-read S n cs l costs e next next' w r a q =
    round-more S costs e next next' w r a (subst (λ c. Stepped costs next c.source.table c.target.table w 8 next') (sym (l.at e)) q)

pub round-done : (d : Design) → InRange d → (costs : List ℕ) (m e : ℕ) (next : List ℕ) → Cheap (scheme_of d) m costs → e ≤ d.constraints → d.constraints ≤ e →
    Rounded (scheme_of d) costs e next → Cheap (scheme_of d) (m + 1) next
unfolding scheme_of
round-done d range costs m e next c a b r = round-end (scheme_of d) costs m e d.constraints next c range.target-table refl a b r
