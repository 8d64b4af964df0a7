-- What the tests of a desk's ranges say, both ways, and a desk's ranges as a list. Assumes nothing.
use Prim.Native.Nat.{ℕ, zero, suc, ◌-◌, ◌≤◌, ◌<◌}
use native.Mathlib.Nat.{lt_of_lt_of_le}
use native.Mathlib.Omega.{arith}
use mathlib.Core.Path.{◌≡◌, refl, sym, ap, subst, ◌∙◌}
use mathlib.Core.Logic.{⊎_elim}
use mathlib.Core.Bool.{Bool, true, false, ◌||◌, and-eq-true_iff}
use mathlib.Core.List.{List}
use borrow.Author.Tests.{leb-true, le-leb, ltb-true, ltb-false, eqb-true, eq-eqb, ne_eqb}
use lib.Dec.{eqb, leb, ltb}
use lib.ListN.{length, get_or, get_or-eq_default}
use Rattle.finite.specs.Finite.{all, tab}
use Rattle.finite.proofs.Bools.{dec, both, or_left, or-second}
use Rattle.finite.proofs.Tables.{length-tab, tab-at, tab-past, tab-of}
use Rattle.model.specs.Ranges as Model
use Rattle.model.specs.Ranges.{is_range, only_candidates, stands_before}
use Rattle.model.specs.Holding.{most_ranges}
use Rattle.model.proofs.RangeLaws.{Before, before-says, says-before, RangeFits, range-fits, fits-range, fits-candidates}
use Rattle.model.proofs.RangesFit.{every-at, every-if, rising-at, rising-if, RangesFit}
use Rattle.state.specs.declared.design.Design.{Design}
use Rattle.state.specs.declared.held.Range.{Range}
use Rattle.state.specs.declared.held.DeskRanges.{DeskRanges}
use Rattle.state.specs.Held.{no_range, range_at, TidyRanges}
use Rattle.state.specs.Meaning.{scheme_of, range_of, range_back, list_of, list_back}
use Rattle.state.specs.Lawful.{range_fits, zero_range, lawful_ranges, lawful_design}
use Rattle.state.proofs.Places.{used-at, unused-at, all-places, in_array}
use Rattle.lawful.specs.Parts.{range_lawful}
use Rattle.lawful.specs.LawfulState.{LawfulRanges}
use Rattle.lawful.proofs.DesignLaws.{design-says}

-- ---- one range

zero-range : (r : Range) → zero_range r ≡ true → r ≡ no_range
unfolding zero_range
zero-range r e =
    let a = (and-eq-true_iff (eqb r.filling 0) _).0 e in
    let b = (and-eq-true_iff (eqb r.low 0) (eqb r.high 0)).0 a.1 in
    λ i. record { filling = eqb-true r.filling 0 a.0 i; low = eqb-true r.low 0 b.0 i; high = eqb-true r.high 0 b.1 i }

range-zero : (r : Range) → r ≡ no_range → zero_range r ≡ true
unfolding zero_range
range-zero r e =
    both (eq-eqb _ _ (ap (λ (x : Range). x.filling) e)) (both (eq-eqb _ _ (ap (λ (x : Range). x.low) e)) (eq-eqb _ _ (ap (λ (x : Range). x.high) e)))

module _ (d : Design) (s : DeskRanges) where
  -- a used place: its range fits, and the one before it stands before it
  record Tests (i : ℕ) : Type 0 where
    fits : RangeFits (scheme_of d) (range_of (range_at s i))
    rises : (j : ℕ) → i ≡ suc j → Before (range_of (range_at s j)) (range_of (range_at s i))

  fits-tests : (i : ℕ) → range_fits d s i ≡ true → Tests i
  unfolding range_fits
  fits-tests i e =
      let a = (and-eq-true_iff (is_range (scheme_of d) (range_of (range_at s i))) _).0 e in
      let b = (and-eq-true_iff (only_candidates (scheme_of d) (range_of (range_at s i))) _).0 a.1 in
      record { fits = range-fits (scheme_of d) (range_of (range_at s i)) a.0 b.0; rises = λ j q. later j q b.1 }
    where
      later : (j : ℕ) → i ≡ suc j → eqb i 0 || stands_before (range_of (range_at s (i - 1))) (range_of (range_at s i)) ≡ true →
          Before (range_of (range_at s j)) (range_of (range_at s i))
      later j q w =
          let p : i - 1 ≡ j = omega arith in
          subst (λ (n : ℕ). Before (range_of (range_at s n)) (range_of (range_at s i))) p
          (before-says _ _ (ap (λ (b : Bool). b || stands_before (range_of (range_at s (i - 1))) (range_of (range_at s i))) (sym (ne_eqb i 0 (λ z. omega arith))) ∙ w))

  tests-fit : (i : ℕ) → Tests i → range_fits d s i ≡ true
  unfolding range_fits
  tests-fit i t =
      both (fits-range (scheme_of d) (range_of (range_at s i)) t.fits) (both (fits-candidates (scheme_of d) (range_of (range_at s i)) t.fits) (first i t.rises))
    where
      first : (n : ℕ) → ((j : ℕ) → n ≡ suc j → Before (range_of (range_at s j)) (range_of (range_at s n))) →
          eqb n 0 || stands_before (range_of (range_at s (n - 1))) (range_of (range_at s n)) ≡ true
      first zero h = sym (or_left (eqb 0 0) (stands_before (range_of (range_at s (0 - 1))) (range_of (range_at s 0))) (eq-eqb 0 0 refl))
      first (suc n) h =
          let p : suc n - 1 ≡ n = omega arith in
          or-second (eqb (suc n) 0) (stands_before (range_of (range_at s (suc n - 1))) (range_of (range_at s (suc n))))
          (subst (λ (m : ℕ). stands_before (range_of (range_at s m)) (range_of (range_at s (suc n))) ≡ true) (sym p) (says-before (range_of (range_at s n)) (range_of (range_at s (suc n))) (h n refl)))

  module _ (e : lawful_ranges d s ≡ true) where
    -- the two tests of the list
    ranges-tests : (s.count ≤ 8) × (all 8 (range_lawful d s) ≡ true)
    unfolding lawful_ranges
    ranges-tests = let a = (and-eq-true_iff (leb s.count most_ranges) _).0 e in (leb-true _ _ a.0, a.1)

    pub ranges-count : s.count ≤ 8
    ranges-count = ranges-tests.0

    ranges-used : (i : ℕ) → i < s.count → Tests i
    ranges-used i l = fits-tests i (used-at 8 s.count (range_fits d s) _ ranges-tests.1 i (lt_of_lt_of_le l ranges-count) l)

    pub ranges-rest : (i : ℕ) → i < 8 → s.count ≤ i → range_at s i ≡ no_range
    ranges-rest i l m = zero-range _ (unused-at 8 s.count _ (λ j. zero_range (range_at s j)) ranges-tests.1 i l m)

    pub ranges-tidy : TidyRanges s
    ranges-tidy = record { few = ranges-count; unused = λ i l m. ranges-rest i m l }

    pub ranges-say : LawfulRanges d s
    unfolding scheme_of
    ranges-say =
        record {
          count = ranges-count;
          range = λ i l. let f = (ranges-used i l).fits in record { filling = f.filling; full = f.full; low = f.low; high = f.high };
          rises = λ i l. (ranges-used (suc i) l).rises i refl;
          rest = ranges-rest;
        }

  pub ranges-if : lawful_design d ≡ true → LawfulRanges d s → lawful_ranges d s ≡ true
  unfolding lawful_ranges scheme_of
  ranges-if w l =
      both (le-leb _ _ l.count)
      (all-places 8 s.count _ _ (λ i _ m. tests-fit i (record { fits = fits i m; rises = λ j q. rises i j m q })) (λ i a b. range-zero _ (l.rest i a b)))
    where
      fits : (i : ℕ) → i < s.count → RangeFits (scheme_of d) (range_of (range_at s i))
      fits i m =
          let f = l.range i m in
          record {
            filling = f.filling;
            some = omega (arith, ((design-says d w).filling (range_at s i).filling f.filling).low, f.low);
            full = f.full;
            low = f.low;
            high = f.high;
          }

      rises : (i j : ℕ) → i < s.count → i ≡ suc j → Before (range_of (range_at s j)) (range_of (range_at s i))
      rises i j m q = subst (λ (n : ℕ). Before (range_of (range_at s j)) (range_of (range_at s n))) (sym q) (l.rises j (omega arith))

-- ---- a desk's ranges as a list

pub length-list : (s : DeskRanges) → length (list_of s) ≡ s.count
unfolding list_of
length-list s = length-tab s.count _

pub list_at : (s : DeskRanges) (i : ℕ) → i < s.count → get_or (list_of s) i (range_of no_range) ≡ range_of (range_at s i)
unfolding list_of
list_at s i l = tab-at (range_of no_range) s.count _ i l

list-past : (s : DeskRanges) (i : ℕ) → s.count ≤ i → get_or (list_of s) i (range_of no_range) ≡ range_of no_range
unfolding list_of
list-past s i l = tab-past (range_of no_range) s.count _ i l

-- with unused places 0, what a place has is known of every place
pub list_all : (s : DeskRanges) → TidyRanges s → (i : ℕ) → i < 8 → get_or (list_of s) i (range_of no_range) ≡ range_of (range_at s i)
list_all s t i l =
    ⊎_elim (λ (q : ltb i s.count ≡ true). list_at s i (ltb-true _ _ q))
    (λ (q : ltb i s.count ≡ false). list-past s i (ltb-false _ _ q) ∙ ap range_of (sym (t.unused i (ltb-false _ _ q) l)))
    (dec (ltb i s.count))

-- a record with these ranges is the one that has them
pub ranges-back : (s : DeskRanges) → TidyRanges s → length s.list ≡ 8 → list_back (list_of s) ≡ s
unfolding list_back
ranges-back s t z = λ i. record { count = length-list s i; list = sym same i }
  where
    same : s.list ≡ tab 8 (λ i. range_back (get_or (list_of s) i (range_of no_range)))
    same = tab-of no_range 8 _ s.list z (λ i l. sym (ap range_back (list_all s t i l)))

module _ (rs : List Model.Range) where
  back_at : (i : ℕ) → i < 8 → range_at (list_back rs) i ≡ range_back (get_or rs i (range_of no_range))
  unfolding list_back
  back_at i l = tab-at no_range 8 _ i l

  pub list-back : length rs ≤ 8 → list_of (list_back rs) ≡ rs
  unfolding list_of list_back
  list-back l = sym (tab-of (range_of no_range) (length rs) _ rs refl (λ i m. sym (ap range_of (back_at i (lt_of_lt_of_le m l)))))

-- what lawful ranges are as a list fits
pub list-fits : (d : Design) (s : DeskRanges) → lawful_ranges d s ≡ true → RangesFit (scheme_of d) (list_of s)
list-fits d s e =
    record {
      few = subst (λ (n : ℕ). n ≤ 8) (sym (length-list s)) (ranges-count d s e);
      each = every-if (list_of s) (λ i l. rw (list_at s i (at l)) (ranges-used d s e i (at l)).fits);
      rising = rising-if (list_of s) (λ i l. let m = at l in
          rw (list_at s i (let k : i < s.count = omega arith in k), list_at s (suc i) m) ((ranges-used d s e (suc i) m).rises i refl));
    }
  where
    at : {i : ℕ} → i < length (list_of s) → i < s.count
    at l = rw (length-list s) at l

-- and a list that fits is that of lawful ranges
pub fit-ranges : (d : Design) (rs : List Model.Range) → RangesFit (scheme_of d) rs → lawful_ranges d (list_back rs) ≡ true
unfolding lawful_ranges list_back
fit-ranges d rs f =
    both (le-leb _ _ f.few)
    (all-places 8 (length rs) _ _
    (λ i l m. tests-fit d (list_back rs) i
    (record {
      fits = rw (back_at rs i l) (every-at rs f.each i m);
      rises = λ j q. rises i j l m q;
    }))
    (λ i l m. range-zero _ (back_at rs i l ∙ ap range_back (get_or-eq_default rs (range_of no_range) m))))
  where
    rises : (i j : ℕ) → i < 8 → i < length rs → i ≡ suc j → Before (range_of (range_at (list_back rs) j)) (range_of (range_at (list_back rs) i))
    rises i j l m q =
        subst (λ (n : ℕ). Before (range_of (range_at (list_back rs) j)) (range_of (range_at (list_back rs) n))) (sym q)
        (rw (back_at rs j (omega arith), back_at rs (suc j) (omega arith)) (rising-at rs f.rising j (omega arith)))

-- every place names a filling that has a place
pub ranges-filling : (d : Design) (s : DeskRanges) → lawful_design d ≡ true → lawful_ranges d s ≡ true → length s.list ≡ 8 → (i : ℕ) → (range_at s i).filling < 8
unfolding scheme_of
ranges-filling d s w e z =
    in_array s.list no_range 8 s.count (λ r. r.filling < 8) z
    (λ i l. lt_of_lt_of_le (ranges-used d s e i l).fits.filling (design-says d w).fillings) (ranges-rest d s e) (omega arith)
