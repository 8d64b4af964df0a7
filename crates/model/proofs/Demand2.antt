-- Demand 2: a probe or a query that isn't refused is sent exactly if there is no ground, for a query on the cache after the reference; else a query's lists
-- are those of the full tables.
-- Assumes nothing.
use Prim.Native.Nat.{ℕ}
use native.Mathlib.Omega.{arith}
use mathlib.Core.Path.{◌≡◌, refl, sym, ap, subst, ◌∙◌}
use mathlib.Core.Logic.{◌↔◌, ◌≢◌, ⊎_elim}
use mathlib.Core.Bool.{Bool, true, false, not, ◌||◌, and-eq-true_iff}
use borrow.Author.Tests.{eqb-true, eqb-false, eq-eqb, ltb-false}
use lib.Dec.{eqb, ltb}
use Rattle.finite.proofs.Bools.{dec, both, clash}
use Rattle.model.specs.Cell.{Cell, numberless}
use Rattle.model.specs.Scheme.{Column, Scheme, is_column}
use Rattle.model.specs.Database.{Database, Lawful}
use Rattle.model.specs.Probe as Probe
use Rattle.model.specs.Holding.{held_in}
use Rattle.model.specs.Runs.{probe, Output, as_lists, as_total, query, taken, pair_for, output_fits, within_limit, answerable, marked, Cache}
use Rattle.model.specs.Query.{Query, joins_of, operands_fit, position_fits, fitting, words_of, full_lists}
use Rattle.model.specs.Answers.{Answer, sent, ground, unless, or_answer, ground_of, query_ground, is_answered, full_answer, limit_cause, query_answer, query_words, has_lists, shown, written_with}
use Rattle.model.specs.Effects.{cache_after, reply}
use Rattle.model.specs.Demand.{Groundless, Unrefused, FillingsApart, Unreferred, full_words, Demand2}
use Rattle.model.proofs.ProbeLaws.{probe-sent}
use Rattle.model.proofs.QueryLaws.{query-lists}
use Rattle.model.proofs.RunLaws.{Sound, step-sound}
use Rattle.model.proofs.Referring.{untaken, unreferred, ground-keeps, untaken-keeps, refers-pair, pair-ground, full-answers}

ground-not-sent : (a : Answer) (g n : ℕ) → a ≡ ground g n → a ≡ sent → ⊥
ground-not-sent a g n e f = let z : ◌≡◌ {A = ℕ} 0 1 = cc in omega arith

-- ---- no ground is ground 0

ground-of-sent : (g n : ℕ) → ground_of g n ≡ sent → g ≡ 0
ground-of-sent g n e =
    ⊎_elim (λ t. absurd (ground-not-sent (ground_of g n) g n (ap (λ (b : Bool). or_answer b (ground g n) sent) t) e)) (λ t. omega (arith, ltb-false 0 g t)) (dec (ltb 0 g))

ground-of-none : (g n : ℕ) → g ≡ 0 → ground_of g n ≡ sent
ground-of-none g n e = ap (λ (x : ℕ). ground_of x n) e

module _ (S : Scheme) (D : Database) (c : Cache) (k : Column) (v : Cell) where
  abbrev found : ℕ
  found = Probe.probe S D (held_in S c.held) (marked c.marks) k v

  none-found : found ≡ 0 → Groundless S D c k v
  none-found e = let p = probe-sent S D (held_in S c.held) (marked c.marks) k v e in record { held = p.0; demanded = p.1; seen = p.2 }

  found_none : Groundless S D c k v → found ≡ 0
  unfolding Probe.probe
  found_none g = rw (g.held, g.demanded, g.seen)

  -- THEOREM: a probe that isn't refused is sent exactly if no ground applies
  pub probe-sent-exactly : Unrefused (reply S D c (probe k v)).answer → ((reply S D c (probe k v)).answer ≡ sent) ↔ Groundless S D c k v
  unfolding reply
  probe-sent-exactly = go (is_column S k) (numberless v) found (Probe.cached_rows D (marked c.marks) k v) none-found found_none
    where
      go : (a b : Bool) (n m : ℕ) → (n ≡ 0 → Groundless S D c k v) → (Groundless S D c k v → n ≡ 0) →
          Unrefused (unless (not a) 5 (unless b 9 (ground_of n m))) → (unless (not a) 5 (unless b 9 (ground_of n m)) ≡ sent) ↔ Groundless S D c k v
      go false b n m f g u = absurd (u 5 refl)
      go true true n m f g u = absurd (u 9 refl)
      go true false n m f g u = (λ e. f (ground-of-sent n m e), λ h. ground-of-none n m (g h))

-- ---- queries

-- the answer by its four tests, x being the one from the full tables
module _ (cause : ℕ) (x : Answer) where
  abbrev by_tests : Bool → Bool → Bool → Bool → Answer
  by_tests fit blank answered within = unless (not fit) 5 (unless blank 9 (or_answer (not answered) sent (unless (not within) cause x)))

  -- unless it is refused, the operands fit, and it is sent or answered
  data Tested (fit blank answered within : Bool) (a : Answer) : Type 0 where
    sends : fit ≡ true → blank ≡ false → answered ≡ false → a ≡ sent → Tested fit blank answered within a
    answers : fit ≡ true → blank ≡ false → answered ≡ true → within ≡ true → a ≡ x → Tested fit blank answered within a

  tests : (fit blank answered within : Bool) → Unrefused (by_tests fit blank answered within) →
      Tested fit blank answered within (by_tests fit blank answered within)
  tests false b g w u = absurd (u 5 refl)
  tests true true g w u = absurd (u 9 refl)
  tests true false false w u = sends refl refl refl refl
  tests true false true true u = answers refl refl refl refl refl
  tests true false true false u = absurd (u cause refl)

-- a query's operands fit, whatever it is asked for
pub fits-operands : (S : Scheme) (q : Query) (out : Output) → output_fits S q out ≡ true → operands_fit S q ≡ true
unfolding output_fits
fits-operands S q (as_lists room) f = f
fits-operands S q (as_total p c) f = ((and-eq-true_iff (operands_fit S q) (position_fits S q p c)).0 f).0

-- the words that go with the answer from the full tables
full-words : (S : Scheme) (D : Database) (q : Query) (out : Output) → written_with (full_answer S D q out) (words_of (full_lists S D q)) ≡ full_words S D q out
unfolding full_answer full_words written_with has_lists shown
full-words S D q (as_lists room) = refl
full-words S D q (as_total p c) = refl

module _ {S : Scheme} {D : Database} (l : Lawful S D) (apart : FillingsApart S) (c : Cache) (s : Sound S D c) (q : Query) (out : Output)
    (u : Unrefused (query_answer S D c q out)) where
  abbrev after : Cache
  after = cache_after S D c (query q out)

  abbrev Parts : Type 0
  Parts =
      Tested (limit_cause out) (full_answer S D q out) (output_fits S q out) (numberless q.value) (is_answered S D c q) (within_limit S D q out) (query_answer S D c q out)

  parted : Parts
  unfolding query_answer
  parted = tests (limit_cause out) (full_answer S D q out) (output_fits S q out) (numberless q.value) (is_answered S D c q) (within_limit S D q out) u

  full-not-sent : (a : Answer) → a ≡ full_answer S D q out → a ≡ sent → ⊥
  full-not-sent a e f = (full-answers S D q out).0 (sym e ∙ f)

  -- ---- one that is sent

  -- it has no ground, and its pair is not taken
  unanswered : is_answered S D c q ≡ false → (query_ground S D c q ≡ 0) × (taken S c.held (pair_for S q) ≡ false)
  unfolding is_answered
  unanswered e = (eqb-true _ 0 (go (eqb (query_ground S D c q) 0) (taken S c.held (pair_for S q)) e).0, (go (eqb (query_ground S D c q) 0) (taken S c.held (pair_for S q)) e).1)
    where
      go : (g t : Bool) → not g || t ≡ false → (g ≡ true) × (t ≡ false)
      go true false e = (refl, refl)
      go true true e = clash refl e
      go false t e = clash refl e

  -- ---- one that is answered

  -- it has a ground afterwards
  answered-ground : output_fits S q out ≡ true → numberless q.value ≡ false → is_answered S D c q ≡ true → within_limit S D q out ≡ true →
      query_ground S D after q ≢ 0
  unfolding is_answered answerable
  answered-ground f b y w =
      ⊎_elim
      (λ (g : eqb (query_ground S D c q) 0 ≡ true).
      let t : taken S c.held (pair_for S q) ≡ true = ap (λ (x : Bool). not x || taken S c.held (pair_for S q)) (sym g) ∙ y in
      let o = pair-ground S D c q t b in
      λ z. let k = ap (λ (e : Cache). query_ground S D e q) (refers-pair S D c q out (both f (both (ap not b) w)) (eqb-true _ 0 g) t) in omega (arith, o, k, z))
      (λ (g : eqb (query_ground S D c q) 0 ≡ false).
      λ z. eqb-false _ 0 g (sym (ap (λ (e : Cache). query_ground S D e q) (ground-keeps S D c q out (eqb-false _ 0 g))) ∙ z))
      (dec (eqb (query_ground S D c q) 0))

  given : query_answer S D c q out ≢ sent → query_answer S D c q out ≡ full_answer S D q out
  given n = go parted
    where
      go : Parts → query_answer S D c q out ≡ full_answer S D q out
      go (sends f b a e) = absurd (n e)
      go (answers f b a w e) = e

  -- ---- the two together

  no-ground : query_answer S D c q out ≡ sent → Groundless S D c q.column q.value × (taken S c.held (pair_for S q) ≡ false)
  unfolding query_ground
  no-ground e = go parted
    where
      go : Parts → Groundless S D c q.column q.value × (taken S c.held (pair_for S q) ≡ false)
      go (sends f b a e') = (none-found S D c q.column q.value (unanswered a).0, (unanswered a).1)
      go (answers f b a w e') = absurd (full-not-sent _ e' e)

  no-ground-after : query_answer S D c q out ≡ sent → Groundless S D after q.column q.value
  no-ground-after e =
      subst (λ (d : Cache). Groundless S D d q.column q.value) (sym (untaken-keeps S D c q out (no-ground e).1)) (no-ground e).0

  sent-without : query_ground S D after q ≡ 0 → query_answer S D c q out ≡ sent
  sent-without z = go parted
    where
      go : Parts → query_answer S D c q out ≡ sent
      go (sends f b a e) = e
      go (answers f b a w e) = absurd (answered-ground f b a w z)

  sent-unreferred : Groundless S D c q.column q.value → Unreferred S c.held q.column q.value → query_answer S D c q out ≡ sent
  unfolding query_ground is_answered
  sent-unreferred g r = go parted
    where
      go : Parts → query_answer S D c q out ≡ sent
      go (sends f b a e) = e
      go (answers f b a w e) =
          let z = found_none S D c q.column q.value g in
          absurd (unreferred S c.held q apart r (ap (λ (x : Bool). not x || taken S c.held (pair_for S q)) (sym (eq-eqb _ 0 z)) ∙ a))

  lists-cached : query_answer S D c q out ≢ sent → full_lists S D q ≡ fitting S D (marked after.marks) q.column q.value (joins_of q)
  lists-cached n = go parted
    where
      go : Parts → full_lists S D q ≡ fitting S D (marked after.marks) q.column q.value (joins_of q)
      go (sends f b a e) = absurd (n e)
      go (answers f b a w e) = sym (query-lists l after (step-sound c (query q out) s) q (fits-operands S q out f) (answered-ground f b a w))

  -- THEOREM: demand 2, in every sound cache of a lawful database, of a query that isn't refused
  pub demand2 : Demand2 S D c q out
  unfolding query_ground query_words
  demand2 =
      record {
        backend = (no-ground-after, λ g. sent-without (found_none S D after q.column q.value g));
        unreferred = (λ e. ((no-ground e).0, untaken S c.held q (no-ground e).0.held (no-ground e).1), λ p. sent-unreferred p.0 p.1);
        answer = given;
        words = λ n. ap (λ (a : Answer). written_with a (words_of (full_lists S D q))) (given n) ∙ full-words S D q out;
        cached = lists-cached;
      }
