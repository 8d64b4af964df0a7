-- What the answer to Req 09's question says: `open`, `none` and the three numbers each mean what the request says of them. Assumes nothing.
use Prim.Native.Nat.{ℕ, ◌^◌, ◌≤◌, ◌<◌}
use native.Mathlib.Decide.{dec_lt}
use native.Mathlib.Omega.{arith}
use mathlib.Core.Path.{◌≡◌, refl, sym, ap, ap₂, subst, ◌∙◌}
use mathlib.Core.Logic.{◌⊎◌, inl, inr, ⊎_elim}
use mathlib.Core.Bool.{Bool, true, false}
use borrow.Author.Tests.{lt-ltb, le-ltb, ltb-true, ltb-false}
use lib.Dec.{ltb}
use Rattle.finite.specs.Finite.{any, first}
use Rattle.finite.proofs.Bools.{clash, refute}
use Rattle.finite.proofs.Search.{any-true, any_found, any_none, any-refuted}
use Rattle.finite.proofs.First.{First, first-from, first-is, first-none}
use Rattle.model.specs.Cell.{Cell}
use Rattle.model.specs.Scheme.{Column, Scheme}
use Rattle.model.specs.Database.{Database}
use Rattle.model.specs.Runs.{Cache}
use Rattle.model.specs.Opener.{is_open, opens_at, number_opens, filling_opens, lowest_filling, lowest_number, lowest_issue}
use Rattle.model.specs.Answers.{Answer, opened, opened_by, no_opener, or_answer, opener_answer}

-- the three answers differ
opened-opened_by : {f n i : ℕ} → opened ≡ opened_by f n i → ⊥
opened-opened_by e = let z : ◌≡◌ {A = ℕ} 0 1 = cc in omega arith

opened-no_opener : opened ≡ no_opener → ⊥
opened-no_opener e = let z : ◌≡◌ {A = ℕ} 0 1 = cc in omega arith

no_opener-opened_by : {f n i : ℕ} → no_opener ≡ opened_by f n i → ⊥
no_opener-opened_by e = let z : ◌≡◌ {A = ℕ} 0 1 = cc in omega arith

-- and their numbers are what they are made of
filling-of : (f n i g m j : ℕ) → opened_by f n i ≡ opened_by g m j → f ≡ g
filling-of f n i g m j e = cc

number_of : (f n i g m j : ℕ) → opened_by f n i ≡ opened_by g m j → n ≡ m
number_of f n i g m j e = cc

issue-of : (f n i g m j : ℕ) → opened_by f n i ≡ opened_by g m j → i ≡ j
issue-of f n i g m j e = cc

below_or : (n i : ℕ) → (i < n) ⊎ (n ≤ i)
below_or n i = go (dec_lt i n)
  where
    go : Dec (i < n) → (i < n) ⊎ (n ≤ i)
    go (yes l) = inl l
    go (no l) = inr (omega arith)

-- the first of some is one
first_found : (n : ℕ) (p : ℕ → Bool) → any n p ≡ true → (p (first n p) ≡ true) × (first n p < n)
first_found n p e =
    let g = any_found n p e in
    let s = first-from n p 0 (omega arith) in
    let l : first n p < n = ⊎_elim (λ (h : first n p < n). h) (λ z. clash g.2 (s.none g.0 (omega arith) (omega (arith, g.1, z)))) (below_or n (first n p)) in
    (s.here l, l)

module _ (S : Scheme) (D : Database) (c : Cache) (k : Column) (v : Cell) where
  -- filling f, number n and issue i: their reference gives a ground, and none of a lower filling, or of a lower value of f, does
  pub record Lowest (f n i : ℕ) : Type 0 where
    pub filling : f < S.fillings
    pub number : n < 2 ^ 32
    pub issue : i < 2 ^ 8
    pub opens : opens_at S D k v c f n i ≡ true
    pub fillings : (g m j : ℕ) → g < f → m < 2 ^ 32 → j < 2 ^ 8 → opens_at S D k v c g m j ≡ false
    pub numbers : (m j : ℕ) → m < n → j < 2 ^ 8 → opens_at S D k v c f m j ≡ false
    pub issues : (j : ℕ) → j < i → opens_at S D k v c f n j ≡ false

  -- no candidate would do
  abbrev pub NoneOpens : Type 0
  NoneOpens = (f n i : ℕ) → f < S.fillings → n < 2 ^ 32 → i < 2 ^ 8 → opens_at S D k v c f n i ≡ false

  -- ---- from the facts to the answer

  -- the lowest that opens
  abbrev f₀ : ℕ
  f₀ = lowest_filling S D k v c

  abbrev n₀ : ℕ
  n₀ = lowest_number S D k v c f₀

  abbrev i₀ : ℕ
  i₀ = lowest_issue S D k v c f₀ n₀

  -- the answer, by its two tests
  abbrev choose : Bool → Bool → Answer
  choose a b = or_answer a opened (or_answer b (opened_by f₀ n₀ i₀) no_opener)

  chosen : {a b : Bool} → is_open S D k v c ≡ a → ltb f₀ S.fillings ≡ b → choose a b ≡ opener_answer S D c k v
  unfolding opener_answer
  chosen p q = sym (ap₂ choose p q)

  pub open-answer : is_open S D k v c ≡ true → opened ≡ opener_answer S D c k v
  open-answer e = chosen e refl

  module _ (shut : is_open S D k v c ≡ false) where
    pub lowest-answer : (f n i : ℕ) → Lowest f n i → opened_by f n i ≡ opener_answer S D c k v
    unfolding lowest_filling lowest_number lowest_issue
    lowest-answer f n i l = same ∙ chosen shut (lt-ltb f₀ S.fillings (omega (arith, l.filling, ef)))
      where
        number_open : number_opens S D k v c f n ≡ true
        number_open = any-true (2 ^ 8) (opens_at S D k v c f n) i l.issue l.opens

        ef : f ≡ f₀
        ef = first-is S.fillings (filling_opens S D k v c) 0 f (record {
          start = omega arith;
          bound = omega (arith, l.filling);
          none = λ g a b. any-refuted (2 ^ 32) (number_opens S D k v c g) (λ m x. any-refuted (2 ^ 8) (opens_at S D k v c g m) (λ j y. l.fillings g m j b x y));
          here = λ _. any-true (2 ^ 32) (number_opens S D k v c f) n l.number number_open;
        })

        en : n ≡ lowest_number S D k v c f
        en = first-is (2 ^ 32) (number_opens S D k v c f) 0 n (record {
          start = omega arith;
          bound = omega (arith, l.number);
          none = λ m a b. any-refuted (2 ^ 8) (opens_at S D k v c f m) (λ j y. l.numbers m j b y);
          here = λ _. number_open;
        })

        ei : i ≡ lowest_issue S D k v c f n
        ei = first-is (2 ^ 8) (opens_at S D k v c f n) 0 i (record {
          start = omega arith;
          bound = omega (arith, l.issue);
          none = λ j a b. l.issues j b;
          here = λ _. l.opens;
        })

        same : opened_by f n i ≡ opened_by f₀ n₀ i₀
        same =
            ap (λ (x : ℕ). opened_by f n x) ei ∙ ap (λ (x : ℕ). opened_by f x (lowest_issue S D k v c f x)) en ∙
            ap (λ (x : ℕ). opened_by x (lowest_number S D k v c x) (lowest_issue S D k v c x (lowest_number S D k v c x))) ef

    pub none-answer : NoneOpens → no_opener ≡ opener_answer S D c k v
    unfolding lowest_filling
    none-answer h = chosen shut (le-ltb f₀ S.fillings (omega (arith, none)))
      where
        none : f₀ ≡ S.fillings
        none =
            first-none S.fillings (filling_opens S D k v c) 0
            (λ f a b. any-refuted (2 ^ 32) (number_opens S D k v c f) (λ n x. any-refuted (2 ^ 8) (opens_at S D k v c f n) (λ i y. h f n i b x y)))

  -- ---- and from the answer to the facts

  pub opened-says : opened ≡ opener_answer S D c k v → is_open S D k v c ≡ true
  opened-says e = go (is_open S D k v c) (ltb f₀ S.fillings) (e ∙ sym (chosen refl refl))
    where
      go : (a b : Bool) → opened ≡ choose a b → a ≡ true
      go true b q = refl
      go false true q = absurd (opened-opened_by q)
      go false false q = absurd (opened-no_opener q)

  -- "`none` means that no candidate, among all numbers in all ranges, would do"
  pub none-says : no_opener ≡ opener_answer S D c k v → (is_open S D k v c ≡ false) × NoneOpens
  unfolding lowest_filling
  none-says e = let q = go (is_open S D k v c) (ltb f₀ S.fillings) (e ∙ sym (chosen refl refl)) in (q.0, λ f n i a b d. refute _ (refuted q.1 f n i a b d))
    where
      go : (a b : Bool) → no_opener ≡ choose a b → (a ≡ false) × (b ≡ false)
      go true b q = absurd (opened-no_opener (sym q))
      go false true q = absurd (no_opener-opened_by q)
      go false false q = (refl, refl)

      refuted : ltb f₀ S.fillings ≡ false → (f n i : ℕ) → f < S.fillings → n < 2 ^ 32 → i < 2 ^ 8 → opens_at S D k v c f n i ≡ true → ⊥
      refuted z f n i a b d t =
          let s = first-from S.fillings (filling_opens S D k v c) 0 (omega arith) in
          clash (any-true (2 ^ 32) (number_opens S D k v c f) n b (any-true (2 ^ 8) (opens_at S D k v c f n) i d t))
          (s.none f (omega arith) (omega (arith, ltb-false f₀ S.fillings z)))

  -- the three numbers are the lowest
  lowest-found : f₀ < S.fillings → Lowest f₀ n₀ i₀
  unfolding lowest_filling lowest_number lowest_issue
  lowest-found l =
      record {
        filling = l;
        number = en.1;
        issue = ei.1;
        opens = si.here ei.1;
        fillings = λ g m j a x y. any_none (2 ^ 8) (opens_at S D k v c g m) (any_none (2 ^ 32) (number_opens S D k v c g) (sf.none g (omega arith) a) m x) j y;
        numbers = λ m j a y. any_none (2 ^ 8) (opens_at S D k v c f₀ m) (sn.none m (omega arith) a) j y;
        issues = λ j a. si.none j (omega arith) a;
      }
    where
      sf : First S.fillings (filling_opens S D k v c) 0 f₀
      sf = first-from S.fillings (filling_opens S D k v c) 0 (omega arith)

      sn : First (2 ^ 32) (number_opens S D k v c f₀) 0 n₀
      sn = first-from (2 ^ 32) (number_opens S D k v c f₀) 0 (omega arith)

      si : First (2 ^ 8) (opens_at S D k v c f₀ n₀) 0 i₀
      si = first-from (2 ^ 8) (opens_at S D k v c f₀ n₀) 0 (omega arith)

      en : (number_opens S D k v c f₀ n₀ ≡ true) × (n₀ < 2 ^ 32)
      en = first_found (2 ^ 32) (number_opens S D k v c f₀) (sf.here l)

      ei : (opens_at S D k v c f₀ n₀ i₀ ≡ true) × (i₀ < 2 ^ 8)
      ei = first_found (2 ^ 8) (opens_at S D k v c f₀ n₀) en.0

  pub lowest-says : (f n i : ℕ) → opened_by f n i ≡ opener_answer S D c k v → (is_open S D k v c ≡ false) × Lowest f n i
  lowest-says f n i e =
      let q = go (is_open S D k v c) (ltb f₀ S.fillings) (e ∙ sym (chosen refl refl)) in (
        q.0,
        subst (λ (x : ℕ). Lowest x n i) (sym (filling-of f n i f₀ n₀ i₀ q.2))
            (subst (λ (x : ℕ). Lowest f₀ x i) (sym (number_of f n i f₀ n₀ i₀ q.2))
            (subst (λ (x : ℕ). Lowest f₀ n₀ x) (sym (issue-of f n i f₀ n₀ i₀ q.2)) (lowest-found (ltb-true f₀ S.fillings q.1)))),
      )
    where
      go : (a b : Bool) → opened_by f n i ≡ choose a b → (a ≡ false) × (b ≡ true) × (opened_by f n i ≡ opened_by f₀ n₀ i₀)
      go true b q = absurd (opened-opened_by (sym q))
      go false true q = (refl, refl, q)
      go false false q = absurd (no_opener-opened_by (sym q))
