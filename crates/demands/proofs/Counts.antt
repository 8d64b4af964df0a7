-- The numbers that loads, drops and changes of the rows answer are those of the rows that came and went. Assumes nothing.
use Prim.Native.Nat.{ℕ, zero, suc}
use native.Mathlib.Omega.{arith}
use mathlib.Core.Path.{◌≡◌, refl, sym, ap, ◌∙◌}
use mathlib.Core.Bool.{Bool, true, false, not, ◌&&◌, and-eq-true_iff}
use mathlib.Core.List.{List, ◌++◌}
use mathlib.Core.Logic.{⊎_elim}
use borrow.Author.Tests.{lt-ltb}
use lib.Dec.{ltb}
use lib.ListN.{length, take, drop as past}
use lib.Seq.{take_at}
use Rattle.finite.specs.Finite.{count}
use Rattle.finite.proofs.Bools.{clash, both, cond-true, same_number}
use Rattle.finite.proofs.Counting.{count_same}
use Rattle.model.specs.Cell.{numberless}
use Rattle.model.specs.Scheme.{Scheme, candidate}
use Rattle.model.specs.Database.{Database, has}
use Rattle.model.specs.Cache.{RowSet, Inside}
use Rattle.model.specs.Rounds.{level, reached, load, added_rows, later_rounds}
use Rattle.model.specs.Ranges.{Range, is_range, only_candidates, has_range}
use Rattle.model.specs.Holding.{Pair, Holding, holds, has_room, without_pair, covers_range, has_range_room, holds_range, without_range}
use Rattle.model.specs.Runs.{Operation, refer, drop, refer_range, drop_range, taken, range_taken, refer_levels, range_levels, reload_levels, cached_for, marks, marked, Cache}
use Rattle.model.specs.Answers.{held, no_candidate, loaded, dropped, changed, unless, or_answer}
use Rattle.model.specs.Effects.{effect}
use Rattle.model.proofs.DatabaseLaws.{has-Has}
use Rattle.model.proofs.Closed.{Closed, constraints-closed}
use Rattle.model.proofs.RoundsLaws.{Distances, load-distances, load-closed}
use Rattle.model.proofs.Marks.{length-marks, marked-marks-is}
use Rattle.model.proofs.RunLaws.{held-smallest}
use Rattle.state.specs.Meaning.{database_of}
use Rattle.state.specs.Lent.{State, scheme, database, cache, sound, answer_at, state_after}
use Rattle.state.specs.Changes.{Change, Rows, rows, tables_of, row_of, number_of, stored, change_cause, changed_answer, change_answer_at, changed_with, state_changed}
use Rattle.lawful.proofs.SoundState.{answer-at, sound-smallest}
use Rattle.lawful.proofs.SoundChange.{answer-refused, answer-changed, state-changed}
use Rattle.script.proofs.StepLaws.{after-cache}
use Rattle.demands.specs.Counts.{came, went}

-- ---- what the definitions say

tables-size : (R : Rows) → (tables_of R).size ≡ 512
unfolding database_of
tables-size R = refl

length-marks-at : (D : Database) (X : RowSet) → D.size ≡ 512 → length (marks D X) ≡ 512
length-marks-at D X z = length-marks D X ∙ z

-- the state with other rows
with-marks : (s : State) (R : Rows) → changed_with s R ≡ record { design = s.design; cells = R.cells; tables = R.tables; marks = marks (tables_of R) (cached_for (scheme s) (tables_of R) (cache s).held) ++ past 512 s.marks; held = s.held }
unfolding changed_with
with-marks s R = refl

counts_of : (S : Scheme) (D : Database) (c : Cache) (a b : ℕ) → changed_answer S D c ≡ changed a b →
    (a ≡ count 512 (λ r. cached_for S D c.held r && not (marked c.marks r))) × (b ≡ count 512 (λ r. marked c.marks r && not (cached_for S D c.held r)))
unfolding changed_answer
counts_of S D c a b f = (
  let z : count 512 (λ r. cached_for S D c.held r && not (marked c.marks r)) ≡ a = cc in sym z,
  let z : count 512 (λ r. marked c.marks r && not (cached_for S D c.held r)) ≡ b = cc in sym z,
)

module _ (s : State) (e : sound s ≡ true) where
  abbrev S : Scheme
  S = scheme s

  abbrev D : Database
  D = database s

  abbrev c : Cache
  c = cache s

  -- ---- drops

  -- what is cached for a holding, as marks
  marks-of : (h : Holding) → marked (marks D (cached_for S D h)) ≡ cached_for S D h
  marks-of h = marked-marks-is D (cached_for S D h) (held-smallest S D h).meets.rows

  size_is : D.size ≡ 512
  unfolding database_of
  size_is = refl

  -- where the cache behind an operation is what is cached for h, the rows that went are those that the answer counts
  went-is : (o : Operation) (h : Holding) → (cache (state_after s o)).marks ≡ marks D (cached_for S D h) →
      count D.size (λ r. marked c.marks r && not (reached (reload_levels S D h) r)) ≡ went s (state_after s o)
  went-is o h m =
      ap (λ (n : ℕ). count n (λ r. marked c.marks r && not (cached_for S D h r))) size_is ∙
      ap (λ (X : RowSet). count 512 (λ r. marked c.marks r && not (X r))) (sym (ap marked m ∙ marks-of h))

  -- THEOREM. 01: "DROP: the cached rows become the smallest set for the values left. The answer is the number of rows that went."
  pub drop-counts : (p : Pair) (n : ℕ) → answer_at s (drop p) ≡ dropped n → n ≡ went s (state_after s (drop p))
  unfolding effect
  drop-counts p n h = go (ltb p.filling S.fillings) (numberless p.value) (holds c.held p) refl (sym (answer-at s e (drop p)) ∙ h)
    where
      go : (a b y : Bool) → holds c.held p ≡ y →
          unless (not a) 5 (unless b 9 (unless (not y) 10 (dropped (count D.size (λ r. marked c.marks r && not (reached (reload_levels S D (without_pair c.held p)) r)))))) ≡ dropped n →
          n ≡ went s (state_after s (drop p))
      go false b y q h = absurd (let z : ◌≡◌ {A = ℕ} 0 1 = cc in omega arith)
      go true true y q h = absurd (let z : ◌≡◌ {A = ℕ} 0 1 = cc in omega arith)
      go true false false q h = absurd (let z : ◌≡◌ {A = ℕ} 0 1 = cc in omega arith)
      go true false true q h =
          let k : count D.size (λ r. marked c.marks r && not (reached (reload_levels S D (without_pair c.held p)) r)) ≡ n = cc in
          sym k ∙ went-is (drop p) (without_pair c.held p) (ap (λ (x : Cache). x.marks) (after-cache s e (drop p) ∙ cond-true (holds c.held p) _ _ q))

  -- THEOREM. 02, Req 10: "They print as REFER and DROP do"
  pub drop-range-counts : (r : Range) (n : ℕ) → answer_at s (drop_range r) ≡ dropped n → n ≡ went s (state_after s (drop_range r))
  unfolding effect
  drop-range-counts p n h = go (is_range S p) (holds_range c.held p) refl (sym (answer-at s e (drop_range p)) ∙ h)
    where
      go : (a y : Bool) → holds_range c.held p ≡ y →
          unless (not a) 5 (unless (not y) 10 (dropped (count D.size (λ r. marked c.marks r && not (reached (reload_levels S D (without_range c.held p)) r))))) ≡ dropped n →
          n ≡ went s (state_after s (drop_range p))
      go false y q h = absurd (let z : ◌≡◌ {A = ℕ} 0 1 = cc in omega arith)
      go true false q h = absurd (let z : ◌≡◌ {A = ℕ} 0 1 = cc in omega arith)
      go true true q h =
          let k : count D.size (λ r. marked c.marks r && not (reached (reload_levels S D (without_range c.held p)) r)) ≡ n = cc in
          sym k ∙ went-is (drop_range p) (without_range c.held p) (ap (λ (x : Cache). x.marks) (after-cache s e (drop_range p) ∙ cond-true (holds_range c.held p) _ _ q))

  -- ---- loads

  -- the rows that a load adds are those that it reaches and that were not cached
  module _ (seed : RowSet) (inside : Inside seed D.live) where
    abbrev L : List ℕ
    L = load S D (marked c.marks) seed

    closed : Closed S D (marked c.marks)
    closed = let m = (sound-smallest s e).meets in constraints-closed m.rows m.constraints

    distances : Distances S D (marked c.marks) seed L
    distances = load-distances S D (marked c.marks) seed closed inside

    added-at : (r n : ℕ) → level L r ≡ n → (b : Bool) → marked c.marks r ≡ b → ltb 1 n ≡ ltb 0 n && not b
    added-at r zero l b m = refl
    added-at r (suc zero) l true m = refl
    added-at r (suc zero) l false m = clash (distances.is-old r l) m
    added-at r (suc (suc n)) l true m = let z = distances.olds r m in absurd (omega (arith, z, l))
    added-at r (suc (suc n)) l false m = lt-ltb 1 (suc (suc n)) (omega arith) ∙ sym (ap (λ (b : Bool). b && true) (lt-ltb 0 (suc (suc n)) (omega arith)))

    added_is : (o : Operation) → (cache (state_after s o)).marks ≡ marks D (reached L) → added_rows D L ≡ came s (state_after s o)
    unfolding added_rows reached
    added_is o m =
        ap (λ (n : ℕ). count n (λ r. ltb 1 (level L r))) size_is ∙
        count_same 512 _ _ (λ r l. added-at r (level L r) refl (marked c.marks r) refl) ∙
        ap (λ (X : RowSet). count 512 (λ r. X r && not (marked c.marks r)))
        (sym (ap marked m ∙ marked-marks-is D (reached L) (load-closed S D (marked c.marks) seed closed inside).rows))

  -- THEOREM. 01: "REFER: .. The answer gives the rows added and the number of later rounds that added a row." (The rounds are the definition's: `later_rounds`.)
  pub refer-counts : (p : Pair) (n k : ℕ) → answer_at s (refer p) ≡ loaded n k → n ≡ came s (state_after s (refer p))
  unfolding effect taken refer_levels
  refer-counts p n k h =
      go (ltb p.filling S.fillings) (numberless p.value) (candidate (S.filling p.filling) p.value) (holds c.held p) (has_room c.held) refl refl refl refl
      (sym (answer-at s e (refer p)) ∙ h)
    where
      M : List ℕ
      M = load S D (marked c.marks) (has D (S.filling p.filling).column p.value)

      go : (a b y h r : Bool) → ltb p.filling S.fillings ≡ a → candidate (S.filling p.filling) p.value ≡ y → holds c.held p ≡ h → has_room c.held ≡ r →
          unless (not a) 5 (unless b 9 (or_answer (not y) no_candidate (or_answer h held (unless (not r) 8 (loaded (added_rows D M) (later_rounds D M)))))) ≡ loaded n k →
          n ≡ came s (state_after s (refer p))
      go false b y h r f g i j x = absurd (let z : ◌≡◌ {A = ℕ} 0 1 = cc in omega arith)
      go true true y h r f g i j x = absurd (let z : ◌≡◌ {A = ℕ} 0 1 = cc in omega arith)
      go true false false h r f g i j x = absurd (let z : ◌≡◌ {A = ℕ} 0 1 = cc in omega arith)
      go true false true true r f g i j x = absurd (let z : ◌≡◌ {A = ℕ} 0 1 = cc in omega arith)
      go true false true false false f g i j x = absurd (let z : ◌≡◌ {A = ℕ} 0 1 = cc in omega arith)
      go true false true false true f g i j x =
          let z : added_rows D M ≡ n = cc in
          let t : ltb p.filling S.fillings && (candidate (S.filling p.filling) p.value && (not (holds c.held p) && has_room c.held)) ≡ true =
          both f (both g (both (ap not i) j)) in
          sym z ∙ added_is (has D (S.filling p.filling).column p.value) (λ r q. (has-Has D _ _ r q).live) (refer p)
          (ap (λ (y : Cache). y.marks) (after-cache s e (refer p) ∙ cond-true _ _ _ t))

  -- THEOREM: the same of a range, "its values all joining round 0"
  pub range-counts : (q : Range) (n k : ℕ) → answer_at s (refer_range q) ≡ loaded n k → n ≡ came s (state_after s (refer_range q))
  unfolding effect range_taken range_levels has_range
  range-counts q n k h =
      go (is_range S q) (only_candidates S q) (covers_range c.held q) (has_range_room c.held q) refl refl refl refl (sym (answer-at s e (refer_range q)) ∙ h)
    where
      M : List ℕ
      M = load S D (marked c.marks) (has_range D (S.filling q.filling).column q)

      go : (a y h r : Bool) → is_range S q ≡ a → only_candidates S q ≡ y → covers_range c.held q ≡ h → has_range_room c.held q ≡ r →
          unless (not a) 5 (or_answer (not y) no_candidate (or_answer h held (unless (not r) 8 (loaded (added_rows D M) (later_rounds D M))))) ≡ loaded n k →
          n ≡ came s (state_after s (refer_range q))
      go false y h r f g i j x = absurd (let z : ◌≡◌ {A = ℕ} 0 1 = cc in omega arith)
      go true false h r f g i j x = absurd (let z : ◌≡◌ {A = ℕ} 0 1 = cc in omega arith)
      go true true true r f g i j x = absurd (let z : ◌≡◌ {A = ℕ} 0 1 = cc in omega arith)
      go true true false false f g i j x = absurd (let z : ◌≡◌ {A = ℕ} 0 1 = cc in omega arith)
      go true true false true f g i j x =
          let z : added_rows D M ≡ n = cc in
          let t : is_range S q && (only_candidates S q && (not (covers_range c.held q) && has_range_room c.held q)) ≡ true = both f (both g (both (ap not i) j)) in
          sym z ∙ added_is (has_range D (S.filling q.filling).column q) (λ r y. ((and-eq-true_iff (D.live r) _).0 y).0) (refer_range q)
          (ap (λ (y : Cache). y.marks) (after-cache s e (refer_range q) ∙ cond-true _ _ _ t))

  -- ---- changes of the rows

  -- THEOREM. 02, Req 12: "it prints `rows`, how many came and how many went, the row itself included if cached"
  pub change-counts : (x : Change) (a b : ℕ) → change_answer_at s x ≡ changed a b → (a ≡ came s (state_changed s x)) × (b ≡ went s (state_changed s x))
  change-counts x a b h =
      ⊎_elim (λ (z : change_cause S (rows s) x ≡ 0). counted z (sym (answer-changed s x e z) ∙ h))
      (λ (n : change_cause S (rows s) x ≡ 0 → ⊥). absurd (let y = sym (answer-refused s x e n) ∙ h in let z : ◌≡◌ {A = ℕ} 0 1 = cc in omega arith))
      (same_number (change_cause S (rows s) x) 0)
    where
      R : Rows
      R = stored (rows s) (number_of x) (row_of x)

      Y : RowSet
      Y = cached_for S (tables_of R) c.held

      long : length (marks (tables_of R) Y) ≡ 512
      long = length-marks-at (tables_of R) Y (tables-size R)

      counted : change_cause S (rows s) x ≡ 0 → changed_answer S (tables_of R) c ≡ changed a b → (a ≡ came s (state_changed s x)) × (b ≡ went s (state_changed s x))
      counted z f =
          let now : marked (take 512 (state_changed s x).marks) ≡ Y =
          ap (λ (t : State). marked (take 512 t.marks)) (state-changed s x e z ∙ with-marks s R) ∙ ap marked (take_at (marks (tables_of R) Y) (past 512 s.marks) 512 long) ∙
          marked-marks-is (tables_of R) Y (held-smallest S (tables_of R) c.held).meets.rows in
          let is = counts_of S (tables_of R) c a b f in (
            is.0 ∙ ap (λ (X : RowSet). count 512 (λ r. X r && not (marked c.marks r))) (sym now),
            is.1 ∙ ap (λ (X : RowSet). count 512 (λ r. marked c.marks r && not (X r))) (sym now),
          )
