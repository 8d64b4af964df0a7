-- A record stored as words, value by value and desk by desk. Assumes nothing.
use Prim.Native.Nat.{ℕ, ◌+◌, ◌≤◌, ◌<◌}
use native.Mathlib.Omega.{arith}
use mathlib.Core.Path.{◌≡◌, refl, sym, ap, subst, ◌∙◌}
use mathlib.Core.List.{List}
use lib.ListN.{get_or}
use Rattle.finite.specs.Finite.{tab}
use Rattle.finite.proofs.Tables.{Upto, upto-start, upto-set, upto-end, tab-of}
use Rattle.model.specs.Runs.{Operation}
use Rattle.model.specs.Answers.{Answer}
use Rattle.state.specs.declared.design.Design.{Design}
use Rattle.state.specs.Cells.{Cells}
use Rattle.cache.specs.Ready.{Ready}
use Rattle.state.specs.Lent.{lent, Answered}
use Rattle.state.specs.declared.held.OwnedValue.{OwnedValue}
use Rattle.state.specs.declared.held.DeskRanges.{DeskRanges}
use Rattle.state.specs.declared.held.Held.{Held}
use Rattle.state.specs.Held.{no_value, no_ranges, held_at, ranges_at}
use Rattle.state.specs.HeldWords.{words_held, Whole, Holds, with_named, with_count, with_value_at, with_ranges_at}
use Rattle.state.proofs.Arrays.{HeldSized}
use Rattle.state.proofs.HeldWords.{words-sized, holds-whole}

-- ---- the first i values are stored

pub record Valued (h : Held) (vs : List OwnedValue) (ws : List ℕ) (i : ℕ) : Type 0 where
  pub whole : Whole ws
  pub most : i ≤ 64
  pub desk : (words_held ws).desk ≡ h.desk
  pub count : (words_held ws).count ≡ h.count
  pub ranges : (words_held ws).ranges ≡ h.ranges
  pub values : Upto no_value 64 i (λ j. get_or vs j no_value) (held_at h) (words_held ws).values

module _ {vs : List OwnedValue} where
  pub valued-start : (ws : List ℕ) → Whole ws → Valued (words_held ws) vs ws 0
  valued-start ws w =
      record { whole = w; most = omega arith; desk = refl; count = refl; ranges = refl; values = upto-start no_value 64 _ (words_held ws).values (words-sized ws).values }

  pub valued-more : {h : Held} {ws ws' : List ℕ} {i : ℕ} → Valued h vs ws i → i < 64 → Holds ws' (with_value_at (words_held ws) i (get_or vs i no_value)) → Valued h vs ws' (i + 1)
  valued-more {h} {ws} {ws'} {i} s l o =
      record {
        whole = holds-whole ws' (with_value_at (words_held ws) i (get_or vs i no_value)) o;
        most = omega arith;
        desk = ap (λ (g : Held). g.desk) o.means ∙ s.desk;
        count = ap (λ (g : Held). g.count) o.means ∙ s.count;
        ranges = ap (λ (g : Held). g.ranges) o.means ∙ s.ranges;
        values =
            subst (λ (xs : List OwnedValue). Upto no_value 64 (i + 1) (λ j. get_or vs j no_value) (held_at h) xs) (sym (ap (λ (g : Held). g.values) o.means))
            (upto-set no_value 64 i _ _ (words_held ws).values s.values l (get_or vs i no_value) refl);
      }

  pub valued-end : {h : Held} {ws : List ℕ} {i : ℕ} → Valued h vs ws i → 64 ≤ i →
      Holds ws (record { desk = h.desk; count = h.count; values = tab 64 (λ j. get_or vs j no_value); ranges = h.ranges })
  valued-end {h} {ws} {i} s g =
      let v = upto-end no_value 64 i _ _ (words_held ws).values s.values s.most g in
      let e = s.desk in let n = s.count in let r = s.ranges in
      let is : words_held ws ≡ record { desk = h.desk; count = h.count; values = tab 64 (λ j. get_or vs j no_value); ranges = h.ranges } =
      λ x. record { desk = e x; count = n x; values = v x; ranges = r x } in
      subst (Holds ws) is (record { words = s.whole; means = refl })

-- ---- the ranges of the first i desks are stored

pub record Desked (h : Held) (ss : List DeskRanges) (ws : List ℕ) (i : ℕ) : Type 0 where
  pub whole : Whole ws
  pub most : i ≤ 4
  pub desk : (words_held ws).desk ≡ h.desk
  pub count : (words_held ws).count ≡ h.count
  pub values : (words_held ws).values ≡ h.values
  pub ranges : Upto no_ranges 4 i (λ j. get_or ss j no_ranges) (ranges_at h) (words_held ws).ranges

module _ {ss : List DeskRanges} where
  pub desked-start : (ws : List ℕ) → Whole ws → Desked (words_held ws) ss ws 0
  desked-start ws w =
      record { whole = w; most = omega arith; desk = refl; count = refl; values = refl; ranges = upto-start no_ranges 4 _ (words_held ws).ranges (words-sized ws).ranges }

  pub desked-more : {h : Held} {ws ws' : List ℕ} {i : ℕ} → Desked h ss ws i → i < 4 → Holds ws' (with_ranges_at (words_held ws) i (get_or ss i no_ranges)) → Desked h ss ws' (i + 1)
  desked-more {h} {ws} {ws'} {i} s l o =
      record {
        whole = holds-whole ws' (with_ranges_at (words_held ws) i (get_or ss i no_ranges)) o;
        most = omega arith;
        desk = ap (λ (g : Held). g.desk) o.means ∙ s.desk;
        count = ap (λ (g : Held). g.count) o.means ∙ s.count;
        values = ap (λ (g : Held). g.values) o.means ∙ s.values;
        ranges =
            subst (λ (xs : List DeskRanges). Upto no_ranges 4 (i + 1) (λ j. get_or ss j no_ranges) (ranges_at h) xs) (sym (ap (λ (g : Held). g.ranges) o.means))
            (upto-set no_ranges 4 i _ _ (words_held ws).ranges s.ranges l (get_or ss i no_ranges) refl);
      }

  pub desked-end : {h : Held} {ws : List ℕ} {i : ℕ} → Desked h ss ws i → 4 ≤ i →
      Holds ws (record { desk = h.desk; count = h.count; values = h.values; ranges = tab 4 (λ j. get_or ss j no_ranges) })
  desked-end {h} {ws} {i} s g =
      let r = upto-end no_ranges 4 i _ _ (words_held ws).ranges s.ranges s.most g in
      let e = s.desk in let n = s.count in let v = s.values in
      let is : words_held ws ≡ record { desk = h.desk; count = h.count; values = h.values; ranges = tab 4 (λ j. get_or ss j no_ranges) } =
      λ x. record { desk = e x; count = n x; values = v x; ranges = r x } in
      subst (Holds ws) is (record { words = s.whole; means = refl })

-- ---- all of a record: the desk, the count, the values and the ranges

pub record-stored : (h : Held) → HeldSized h → (w a b c d : List ℕ) → Holds a (with_named (words_held w) h.desk) → Holds b (with_count (words_held a) h.count) →
    Holds c (record { desk = (words_held b).desk; count = (words_held b).count; values = tab 64 (λ i. get_or h.values i no_value); ranges = (words_held b).ranges }) →
    Holds d (record { desk = (words_held c).desk; count = (words_held c).count; values = (words_held c).values; ranges = tab 4 (λ e. get_or h.ranges e no_ranges) }) → Holds d h
record-stored h z w a b c d p q r s =
    let desk : (words_held c).desk ≡ h.desk = ap (λ (g : Held). g.desk) r.means ∙ ap (λ (g : Held). g.desk) q.means ∙ ap (λ (g : Held). g.desk) p.means in
    let count : (words_held c).count ≡ h.count = ap (λ (g : Held). g.count) r.means ∙ ap (λ (g : Held). g.count) q.means in
    let values : (words_held c).values ≡ h.values = ap (λ (g : Held). g.values) r.means ∙ sym (tab-of no_value 64 _ h.values z.values (λ i l. refl)) in
    let ranges : tab 4 (λ e. get_or h.ranges e no_ranges) ≡ h.ranges = sym (tab-of no_ranges 4 _ h.ranges z.ranges (λ e l. refl)) in
    subst (Holds d) (λ x. record { desk = desk x; count = count x; values = values x; ranges = ranges x }) s

-- ---- the record that words hold, read place by place

pub values-all-read : (ws : List ℕ) (vs : List OwnedValue) → vs ≡ tab 64 (held_at (words_held ws)) → vs ≡ (words_held ws).values
values-all-read ws vs e = e ∙ sym (tab-of no_value 64 _ (words_held ws).values (words-sized ws).values (λ i l. refl))

pub desks-all-read : (ws : List ℕ) (ss : List DeskRanges) → ss ≡ tab 4 (ranges_at (words_held ws)) → ss ≡ (words_held ws).ranges
desks-all-read ws ss e = e ∙ sym (tab-of no_ranges 4 _ (words_held ws).ranges (words-sized ws).ranges (λ i l. refl))

pub record_is : (h : Held) (d n : ℕ) (vs : List OwnedValue) (ss : List DeskRanges) → d ≡ h.desk → n ≡ h.count → vs ≡ h.values → ss ≡ h.ranges →
    ◌≡◌ {A = Held} (record { desk = d; count = n; values = vs; ranges = ss }) h
record_is h d n vs ss p q r s = λ x. record { desk = p x; count = q x; values = r x; ranges = s x }

-- ---- an operation over words, seen as one over the record

pub over-record : (d : Design) (cells : Cells) (tables m m' : List ℕ) (g h g' h' : Held) (o : Operation) (a : Answer) → g ≡ h → h' ≡ g' →
    Answered (lent d cells tables m g) o a (lent d cells tables m' g') → Answered (lent d cells tables m h) o a (lent d cells tables m' h')
over-record d cells tables m m' g h g' h' o a p q e =
    subst (λ (k : Held). Answered (lent d cells tables m h) o a (lent d cells tables m' k)) (sym q)
    (subst (λ (k : Held). Answered (lent d cells tables m k) o a (lent d cells tables m' g')) p e)

-- what is ready for a record is so for words that hold it
pub ready_for : (d : Design) (cells : Cells) (tables m : List ℕ) (g h : Held) (catalog keys : List ℕ) → g ≡ h → Ready d cells tables m h catalog keys → Ready d cells tables m g catalog keys
ready_for d cells tables m g h catalog keys p e = subst (λ (k : Held). Ready d cells tables m k catalog keys) (sym p) e
