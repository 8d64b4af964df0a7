-- The tests of evenness say what they are named for: a design is even exactly if there is no lowest uneven pair, and the pair that is found is the
-- lowest (02, Req 01). Assumes nothing.
use Prim.Native.Nat.{ℕ, ◌≤◌, ◌<◌}
use native.Mathlib.Decide.{dec_lt}
use native.Mathlib.Omega.{arith}
use mathlib.Core.Path.{◌≡◌, refl, sym, ap, ap₂, subst, ◌∙◌}
use mathlib.Core.Logic.{◌↔◌, ◌⊎◌, inl, inr}
use mathlib.Core.Bool.{true, false, not, and-eq-true_iff}
use borrow.Author.Tests.{eqb-true, eq-eqb, ne_eqb, eqb-false, ltb-true, lt-ltb, le-ltb, not-true}
use lib.Dec.{eqb, ltb}
use lib.ListN.{get_or}
use Rattle.finite.proofs.Bools.{both, clash, dec}
use Rattle.finite.proofs.First.{First, first-from}
use Rattle.model.specs.Scheme.{Scheme}
use Rattle.model.specs.Even.{Uneven, Even, LowestUneven, is_uneven, uneven_from, lowest_uneven}
use Rattle.model.specs.Answers.{Answer, even, uneven, shown, even_answer}
use Rattle.model.proofs.ReachLaws.{reaches-Reaches, Reaches-reaches}

-- the tables that constraints end at are among the eight
abbrev pub Few : Scheme → Type 0
Few S = (i : ℕ) → i < S.constraints → (S.constraint i).target.table < 8

module _ (S : Scheme) where
  pub uneven-says : (i j : ℕ) → i < S.constraints → j < S.constraints → is_uneven S i j ≡ true → Uneven S i j
  unfolding is_uneven
  uneven-says i j l m e =
      let a = (and-eq-true_iff (eqb (S.constraint i).target.table (S.constraint j).source.table) _).0 e in
      let b = (and-eq-true_iff (not (eqb (S.constraint i).target.place (S.constraint j).source.place)) _).0 a.1 in
      record {
        cyclic = record { first = l; second = m; meet = eqb-true _ _ a.0; back = reaches-Reaches S _ _ b.1 };
        apart = eqb-false _ _ (not-true _ b.0);
      }

  pub uneven-if : Few S → (i j : ℕ) → Uneven S i j → is_uneven S i j ≡ true
  unfolding is_uneven
  uneven-if few i j u =
      both (eq-eqb _ _ u.cyclic.meet) (both (ap not (ne_eqb _ _ u.apart)) (Reaches-reaches S few _ _ u.cyclic.back))

  -- ---- the lowest pair

  -- i makes the design uneven with some j, if and only if the lowest such j is found
  with-some : Few S → (i j : ℕ) → Uneven S i j → ltb (uneven_from S i) S.constraints ≡ true
  with-some few i j u = lt-ltb _ _ (go (dec_lt j (uneven_from S i)))
    where
      f : uneven_from S i ≤ S.constraints
      f = (first-from S.constraints (is_uneven S i) 0 (omega arith)).bound

      go : Dec (j < uneven_from S i) → uneven_from S i < S.constraints
      go (yes l) = clash (uneven-if few i j u) ((first-from S.constraints (is_uneven S i) 0 (omega arith)).none j (omega arith) l)
      go (no l) = omega (arith, u.cyclic.second)

  -- what the search for the lowest i says
  searched : First S.constraints (λ i. ltb (uneven_from S i) S.constraints) 0 (lowest_uneven S)
  searched = first-from S.constraints (λ i. ltb (uneven_from S i) S.constraints) 0 (omega arith)

  found : (i : ℕ) → i < S.constraints → uneven_from S i < S.constraints → Uneven S i (uneven_from S i)
  found i l m = uneven-says i (uneven_from S i) l m ((first-from S.constraints (is_uneven S i) 0 (omega arith)).here m)

  pub lowest-found : Few S → lowest_uneven S < S.constraints → LowestUneven S (lowest_uneven S) (uneven_from S (lowest_uneven S))
  lowest-found few l =
      record {
        uneven = found (lowest_uneven S) l (ltb-true _ _ (searched.here l));
        first = λ k j u. at_least k j u (dec_lt k (lowest_uneven S));
        second = λ j u. least j u (dec_lt j (uneven_from S (lowest_uneven S)));
      }
    where
      at_least : (k j : ℕ) → Uneven S k j → Dec (k < lowest_uneven S) → lowest_uneven S ≤ k
      at_least k j u (yes m) = clash (with-some few k j u) (searched.none k (omega arith) m)
      at_least k j u (no m) = omega arith

      least : (j : ℕ) → Uneven S (lowest_uneven S) j → Dec (j < uneven_from S (lowest_uneven S)) → uneven_from S (lowest_uneven S) ≤ j
      least j u (yes m) = clash (uneven-if few (lowest_uneven S) j u) ((first-from S.constraints (is_uneven S (lowest_uneven S)) 0 (omega arith)).none j (omega arith) m)
      least j u (no m) = omega arith

  -- there is none: the design is even
  pub none-even : Few S → S.constraints ≤ lowest_uneven S → Even S
  unfolding Even
  none-even few l i j c = go (dec (eqb (S.constraint i).target.place (S.constraint j).source.place))
    where
      go : (eqb (S.constraint i).target.place (S.constraint j).source.place ≡ true) ⊎
          (eqb (S.constraint i).target.place (S.constraint j).source.place ≡ false) → (S.constraint i).target.place ≡ (S.constraint j).source.place
      go (inl e) = eqb-true _ _ e
      go (inr e) =
          clash (with-some few i j (record { cyclic = c; apart = eqb-false _ _ e })) (searched.none i (omega arith) (omega (arith, c.first)))

  -- an even design has none
  pub even-none : Even S → S.constraints ≤ lowest_uneven S
  unfolding Even
  even-none e = go (dec_lt (lowest_uneven S) S.constraints)
    where
      go : Dec (lowest_uneven S < S.constraints) → S.constraints ≤ lowest_uneven S
      go (yes l) = let u = found (lowest_uneven S) l (ltb-true _ _ (searched.here l)) in absurd (u.apart (e _ _ u.cyclic))
      go (no l) = omega arith

  -- there is only one lowest pair
  lowest-is : Few S → (i j : ℕ) → LowestUneven S i j → (lowest_uneven S < S.constraints) × (lowest_uneven S ≡ i) × (uneven_from S (lowest_uneven S) ≡ j)
  lowest-is few i j u = (l, e, omega (arith, f.second j (subst (λ (k : ℕ). Uneven S k j) (sym e) u.uneven), u.second _ (subst (λ (k : ℕ). Uneven S k (uneven_from S (lowest_uneven S))) e f.uneven)))
    where
      at : Dec (i < lowest_uneven S) → lowest_uneven S ≤ i
      at (yes m) = clash (with-some few i j u.uneven) (searched.none i (omega arith) m)
      at (no m) = omega arith

      l : lowest_uneven S < S.constraints
      l = omega (arith, at (dec_lt i (lowest_uneven S)), u.uneven.cyclic.first)

      f : LowestUneven S (lowest_uneven S) (uneven_from S (lowest_uneven S))
      f = lowest-found few l

      e : lowest_uneven S ≡ i
      e = omega (arith, at (dec_lt i (lowest_uneven S)), u.first _ _ f.uneven)

  -- ---- the answer

  some-answer : lowest_uneven S < S.constraints → even_answer S ≡ uneven (lowest_uneven S) (uneven_from S (lowest_uneven S))
  unfolding even_answer
  some-answer l = rw (lt-ltb _ _ l)

  none-answer : S.constraints ≤ lowest_uneven S → even_answer S ≡ even
  unfolding even_answer
  none-answer l = rw (le-ltb _ _ l)

  -- the two words differ
  apart : {A : Type 0} {i j : ℕ} → uneven i j ≡ even → A
  unfolding shown
  apart e = clash (eq-eqb 9 9 refl) (ap (λ (a : Answer). eqb (shown a).word 9) e ∙ ne_eqb 8 9 (λ q. omega arith))

  -- THE REPORT: `even` exactly of an even design
  pub even-answer : Few S → (even_answer S ≡ even) ↔ Even S
  even-answer few = (λ e. to e (dec_lt (lowest_uneven S) S.constraints), λ e. none-answer (even-none e))
    where
      to : even_answer S ≡ even → Dec (lowest_uneven S < S.constraints) → Even S
      to e (yes l) = apart (sym (some-answer l) ∙ e)
      to e (no l) = none-even few (omega arith)

  -- and `uneven` with the lowest i, and then the lowest j
  pub uneven-answer : Few S → (i j : ℕ) → (even_answer S ≡ uneven i j) ↔ LowestUneven S i j
  unfolding shown
  uneven-answer few i j = (λ e. to e (dec_lt (lowest_uneven S) S.constraints), λ u. let x = lowest-is few i j u in some-answer x.0 ∙ ap₂ uneven x.1 x.2)
    where
      to : even_answer S ≡ uneven i j → Dec (lowest_uneven S < S.constraints) → LowestUneven S i j
      to e (yes l) =
          let p : lowest_uneven S ≡ i = ap (λ (a : Answer). get_or (shown a).numbers 0 0) (sym (some-answer l) ∙ e) in
          let q : uneven_from S (lowest_uneven S) ≡ j = ap (λ (a : Answer). get_or (shown a).numbers 1 0) (sym (some-answer l) ∙ e) in
          subst (λ (k : ℕ). LowestUneven S i k) q (subst (λ (k : ℕ). LowestUneven S k (uneven_from S (lowest_uneven S))) p (lowest-found few l))
      to e (no l) = apart (sym e ∙ none-answer (omega arith))
