-- The answer read off the rows that lead on to one which gives a ground is the answer, where there is no ground: a value opens the query exactly if it is among
-- those that are read, so the lowest of these is the lowest that does. Assumes nothing.
use Prim.Native.Nat.{ℕ, ◌^◌, ◌≤◌, ◌<◌}
use native.Mathlib.Decide.{dec_lt}
use native.Mathlib.Omega.{arith}
use mathlib.Core.Path.{◌≡◌, refl, sym, ap, subst, ◌∙◌}
use mathlib.Core.Logic.{⊎_elim, inl, inr}
use mathlib.Core.Bool.{Bool, true, false, cond, ◌&&◌, and-eq-true_iff}
use borrow.Author.Tests.{eqb-true, eq-eqb, ne_eqb, leb-true, lt-ltb, le-ltb, not-true, not-false}
use lib.Dec.{eqb, leb}
use Rattle.finite.specs.Finite.{first}
use Rattle.finite.proofs.Bools.{both, clash, refute, cond-true}
use Rattle.finite.proofs.First.{First, first-from}
use Rattle.model.specs.Cell.{Cell, Fits, issued, blank, numberless, equal}
use Rattle.model.specs.Scheme.{Column, same_column, Filling, candidate, Scheme}
use Rattle.model.specs.Database.{Database, has}
use Rattle.model.specs.Cache.{RowSet}
use Rattle.model.specs.Holding.{one}
use Rattle.model.specs.Runs.{Cache}
use Rattle.model.specs.Opener.{is_open, opens_at}
use Rattle.model.specs.Turned.{gives, leads_on}
use Rattle.model.specs.Answers.{Answer, opened_by, no_opener, or_answer, opener_answer}
use Rattle.model.proofs.CellLaws.{numbered-full, equal-same, equal-self}
use Rattle.model.proofs.DatabaseLaws.{has-Has, Has-has}
use Rattle.model.proofs.RunLaws.{Sound}
use Rattle.model.proofs.TurnedLaws.{Common, leads-live}
use Rattle.model.proofs.Opens.{gives-inside, opens-cases, cases-open}
use Rattle.model.proofs.OpenerLaws.{Lowest, lowest-answer, none-answer}
use Rattle.opener.specs.Reading.{own_value, value_in, lowest_value, has_value, reading}
use Rattle.opener.proofs.LowestLaws.{number-before, issue-before, NotBefore, lowest-one, lowest_start, lowest-at}

-- the blank has no number
blank-numberless : numberless blank ≡ true
unfolding numberless blank
blank-numberless = refl

-- a candidate has one, where candidates begin with 1
pub candidate-numbered : (F : Filling) (w : Cell) → 1 ≤ F.low → candidate F w ≡ true → numberless w ≡ false
unfolding candidate numberless
candidate-numbered F w l e = ne_eqb w.number 0 (λ z. omega (arith, leb-true F.low w.number ((and-eq-true_iff (leb F.low w.number) _).0 e).0))

-- what is chosen by a test, and has a number, passed it
chosen : (b : Bool) (w : Cell) → numberless (cond b w blank) ≡ false → b ≡ true
chosen true w e = refl
chosen false w e = clash blank-numberless e

-- what stands in the places of a cell that can be stored
pub record Small (w : Cell) : Type 0 where
  pub number : w.number < 2 ^ 32
  pub issue : w.issue < 2 ^ 8

module _ (S : Scheme) (D : Database) (c : Cache) (sound : Sound S D c) (k : Column) (v : Cell) (shut : is_open S D k v c ≡ false)
    (low : (f : ℕ) → f < S.fillings → 1 ≤ (S.filling f).low) (fits : (r p : ℕ) → D.live r ≡ true → Fits (D.cell r p)) (small : Small v) where
  abbrev B : RowSet
  B = leads_on S D (gives S D k v)

  live : (r : ℕ) → B r ≡ true → D.live r ≡ true
  live = leads-live S D (gives S D k v) (gives-inside S D k v)

  module _ (f : ℕ) (l : f < S.fillings) where
    abbrev F : Filling
    F = S.filling f

    -- the lowest that is read for filling f
    abbrev m : Cell
    m = lowest_value D B k v F

    -- ---- a value that opens the query is among those that are read

    own_read : (w : Cell) → candidate F w ≡ true → one F.column w k v ≡ true → NotBefore w m
    unfolding lowest_value own_value one
    own_read w a o =
        let q = (and-eq-true_iff (same_column F.column k) (equal w v)).0 o in
        let e : w ≡ v = equal-same w v q.1 in
        let h : own_value k v F ≡ w = cond-true _ v blank (both q.0 (sym (ap (candidate F) e) ∙ a)) ∙ sym e in
        subst (λ (x : Cell). NotBefore x m) h (lowest_start (own_value k v F) (value_in D B F) D.size (ap numberless h ∙ candidate-numbered F w (low f l) a))

    row_read : (w : Cell) → candidate F w ≡ true → Common (has D F.column w) B → NotBefore w m
    unfolding lowest_value value_in
    row_read w a o =
        let t = has-Has D F.column w o.row o.first in
        let e : D.cell o.row F.column.place ≡ w = equal-same _ w t.value in
        let h : value_in D B F o.row ≡ w = cond-true _ _ blank (both o.second (both (eq-eqb _ _ t.table) (ap (candidate F) e ∙ a))) ∙ e in
        subst (λ (x : Cell). NotBefore x m) h
        (lowest-at (own_value k v F) (value_in D B F) D.size o.row (D.finite o.row t.live) (ap numberless h ∙ candidate-numbered F w (low f l) a))

    opens-read : (n i : ℕ) → opens_at S D k v c f n i ≡ true → NotBefore (issued n i) m
    opens-read n i e =
        let q = opens-cases S D c sound k v shut (record { filling = f; value = issued n i }) e in
        ⊎_elim (own_read (issued n i) q.0) (row_read (issued n i) q.0) q.1

    -- ---- and the lowest that is read opens it

    -- a value that opens it, and that can be stored
    record Found (w : Cell) : Type 0 where
      pub stored : Small w
      pub opens : opens_at S D k v c f w.number w.issue ≡ true

    own-found : numberless (own_value k v F) ≡ false → Found (own_value k v F)
    unfolding own_value one
    own-found e =
        let t = chosen (same_column F.column k && candidate F v) v e in
        let q = (and-eq-true_iff (same_column F.column k) (candidate F v)).0 t in
        let h : Found v = record {
          stored = small;
          opens = cases-open S D c sound k v shut (record { filling = f; value = v }) q.1
              (inl (both q.0 (equal-self v (numbered-full v (candidate-numbered F v (low f l) q.1)))));
        } in
        subst Found (sym (cond-true _ v blank t)) h

    row-found : (r : ℕ) → numberless (value_in D B F r) ≡ false → Found (value_in D B F r)
    unfolding value_in
    row-found r e =
        let w = D.cell r F.column.place in
        let t = chosen (B r && (eqb (D.table r) F.column.table && candidate F w)) w e in
        let q = (and-eq-true_iff (B r) _).0 t in
        let p = (and-eq-true_iff (eqb (D.table r) F.column.table) (candidate F w)).0 q.1 in
        let s = fits r F.column.place (live r q.0) in
        let h : Found w = record {
          stored = record { number = s.number; issue = s.issue };
          opens = cases-open S D c sound k v shut (record { filling = f; value = w }) p.1
              (inr (record {
                row = r;
                first = Has-has (record { live = live r q.0; table = eqb-true _ _ p.0; value = equal-self w (numbered-full w (candidate-numbered F w (low f l) p.1)) });
                second = q.0;
              }));
        } in
        subst Found (sym (cond-true _ w blank t)) h

    lowest-found : numberless m ≡ false → Found m
    unfolding lowest_value
    lowest-found e = ⊎_elim
        (λ h. subst Found (sym h) (own-found (sym (ap numberless h) ∙ e)))
        (λ q. subst Found (sym q.2) (row-found q.0 (sym (ap numberless q.2) ∙ e)))
        (lowest-one (own_value k v F) (value_in D B F) D.size)

    -- a filling for which nothing is read has no value that opens the query
    none_read : numberless m ≡ true → (n i : ℕ) → opens_at S D k v c f n i ≡ false
    none_read e n i = refute _ (λ t. clash e (opens-read n i t).numbered)

  -- ---- the whole answer

  -- the first filling for which a value is read
  abbrev f₀ : ℕ
  f₀ = first S.fillings (has_value S D B k v)

  searched : First S.fillings (has_value S D B k v) 0 f₀
  searched = first-from S.fillings (has_value S D B k v) 0 (omega arith)

  -- nothing is read for an earlier one
  earlier : (g : ℕ) → g < f₀ → (n i : ℕ) → opens_at S D k v c g n i ≡ false
  earlier g a = none_read g (omega (arith, searched.bound)) (not-false _ (searched.none g (omega arith) a))

  is-lowest : (l : f₀ < S.fillings) → Lowest S D c k v f₀ (m f₀ l).number (m f₀ l).issue
  is-lowest l =
      let e : numberless (m f₀ l) ≡ false = not-true _ (searched.here l) in
      let w = lowest-found f₀ l e in
      record {
        filling = l;
        number = w.stored.number;
        issue = w.stored.issue;
        opens = w.opens;
        fillings = λ g n i a x y. earlier g a n i;
        numbers = λ n i a y. refute _ (λ t. (opens-read f₀ l n i t).least (number-before (issued n i) (m f₀ l) a));
        issues = λ i a. refute _ (λ t. (opens-read f₀ l (m f₀ l).number i t).least (issue-before (issued (m f₀ l).number i) (m f₀ l) refl a));
      }

  abbrev choose : Bool → Answer
  choose b = let w = lowest_value D B k v (S.filling f₀) in or_answer b (opened_by f₀ w.number w.issue) no_opener

  pub reading-is : reading S D B k v ≡ opener_answer S D c k v
  unfolding reading
  reading-is = go (dec_lt f₀ S.fillings)
    where
      go : Dec (f₀ < S.fillings) → reading S D B k v ≡ opener_answer S D c k v
      go (yes l) = ap choose (lt-ltb f₀ S.fillings l) ∙ lowest-answer S D c k v shut _ _ _ (is-lowest l)
      go (no l) = ap choose (le-ltb f₀ S.fillings (omega arith)) ∙ none-answer S D c k v shut (λ f n i a x y. earlier f (omega (arith, a)) n i)
