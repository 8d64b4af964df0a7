-- What the tests of the held record say, both ways, and what the layers above use of lawful held values and ranges. Assumes nothing.
use Prim.Native.Nat.{ℕ, ◌≤◌, ◌<◌}
use native.Mathlib.Nat.{lt_trans, lt_of_lt_of_le}
use mathlib.Core.Path.{◌≡◌, refl, sym, ap, subst, ◌∙◌}
use mathlib.Core.Logic.{⊎_elim}
use mathlib.Core.Bool.{true, false, and-eq-true_iff}
use mathlib.Core.List.{List, []}
use borrow.Author.Tests.{ltb-true, ltb-false, lt-ltb, leb-true, le-leb, eqb-true, eq-eqb}
use lib.Dec.{eqb, leb, ltb, lit<, lit≤}
use lib.ListN.{length, get_or-eq_default}
use Rattle.finite.specs.Finite.{all, tab}
use Rattle.finite.proofs.Bools.{dec, both, clash, refute}
use Rattle.finite.proofs.Search.{all-at, all_true, none_before, not-before}
use Rattle.finite.proofs.Tables.{length-tab, tab-at, tab-past, tab-of}
use Rattle.model.specs.Cell.{blank, is_blank}
use Rattle.model.specs.Scheme.{Scheme, candidate}
use Rattle.model.specs.Holding.{desks, places, same_pair, Owned, same_owned, own_among, ranges_of, Holding}
use Rattle.model.proofs.CellLaws.{is-blank, blank-is, numbered-full, equal-same, equal-self}
use Rattle.model.proofs.RangesFit.{ListsFit}
use Rattle.model.proofs.HoldingLaws.{no_owned, owned_at, own-count, HoldingFits, values-few}
use Rattle.state.specs.declared.design.Design.{Design}
use Rattle.state.specs.declared.held.OwnedValue.{OwnedValue}
use Rattle.state.specs.declared.held.DeskRanges.{DeskRanges}
use Rattle.state.specs.declared.held.Held.{Held}
use Rattle.state.specs.Design.{filling_at}
use Rattle.state.specs.Held.{no_value, no_ranges, held_at, range_at, ranges_at, Bounded, Tidy}
use Rattle.state.specs.Meaning.{cell_of, cell_back, scheme_of, filling_of, owned_of, owned_back, values_of, list_of, list_back, lists_of, holding_of, held_of}
use Rattle.state.specs.Lawful.{held_fits, zero_held, own_count, lawful_ranges, lawful_held, lawful_design}
use Rattle.state.proofs.Places.{past_end, in_array, used-at, unused-at, all-places}
use Rattle.state.proofs.Arrays.{HeldSized}
use Rattle.lawful.specs.Parts.{held_lawful, shares_kept, ranges_lawful}
use Rattle.lawful.specs.LawfulState.{LawfulPair, LawfulHeld}
use Rattle.lawful.proofs.DesignLaws.{design-says, low-full}
use Rattle.lawful.proofs.RangeTests.{ranges-count, ranges-tidy, ranges-say, ranges-if, ranges-back, list-back, list-fits, fit-ranges, ranges-filling}

-- ---- one held value

same-owned : (a b : OwnedValue) → same_owned (owned_of a) (owned_of b) ≡ true → a ≡ b
unfolding same_owned same_pair
same-owned a b e =
    let g = (and-eq-true_iff (eqb a.desk b.desk) _).0 e in
    let h = (and-eq-true_iff (eqb a.pair.filling b.pair.filling) _).0 g.1 in
    λ i. record {
      desk = eqb-true a.desk b.desk g.0 i;
      pair = record {
        filling = eqb-true a.pair.filling b.pair.filling h.0 i;
        value = cell_back (equal-same (cell_of a.pair.value) (cell_of b.pair.value) h.1 i);
      };
    }

same-owned-self : (a : OwnedValue) → is_blank (cell_of a.pair.value) ≡ false → same_owned (owned_of a) (owned_of a) ≡ true
unfolding same_owned same_pair
same-owned-self a h =
    both (eq-eqb a.desk a.desk refl) (both (eq-eqb a.pair.filling a.pair.filling refl) (equal-self (cell_of a.pair.value) h))

module _ (d : Design) (h : Held) (n : ℕ) (v : OwnedValue) where
  -- its four tests: the desk and the filling exist, the value is a candidate, the desk doesn't hold the pair before
  record Tests : Type 0 where
    desk : v.desk < desks
    filling : v.pair.filling < d.fillings
    value : candidate (filling_of (filling_at d v.pair.filling)) (cell_of v.pair.value) ≡ true
    new : (i : ℕ) → i < n → same_owned (owned_of (held_at h i)) (owned_of v) ≡ false

  fits-tests : held_fits d h n v ≡ true → Tests
  unfolding held_fits
  fits-tests e =
      let w = (and-eq-true_iff (ltb v.desk desks) _).0 e in
      let g = (and-eq-true_iff (ltb v.pair.filling d.fillings) _).0 w.1 in
      let k = (and-eq-true_iff (candidate (filling_of (filling_at d v.pair.filling)) (cell_of v.pair.value)) _).0 g.1 in
      record { desk = ltb-true _ _ w.0; filling = ltb-true _ _ g.0; value = k.0; new = none_before n _ k.1 }

  tests-fit : Tests → held_fits d h n v ≡ true
  unfolding held_fits
  tests-fit t = both (lt-ltb _ _ t.desk) (both (lt-ltb _ _ t.filling) (both t.value (not-before n _ t.new)))

  pair-says : held_fits d h n v ≡ true → LawfulPair d v.pair
  unfolding candidate
  pair-says e =
      let t = fits-tests e in
      let m = (and-eq-true_iff _ _).0 t.value in
      record { filling = t.filling; low = leb-true _ _ m.0; high = leb-true _ _ m.1 }

  pair-new : lawful_design d ≡ true → held_fits d h n v ≡ true → (i : ℕ) → i < n → held_at h i ≡ v → ⊥
  pair-new w e i l p =
      let t = fits-tests e in
      clash (ap (λ (a : OwnedValue). same_owned (owned_of a) (owned_of v)) p ∙
      same-owned-self v (numbered-full _ (low-full d w v.pair.filling t.filling (cell_of v.pair.value) t.value))) (t.new i l)

  pair-if : v.desk < desks → LawfulPair d v.pair → ((i : ℕ) → i < n → held_at h i ≡ v → ⊥) → held_fits d h n v ≡ true
  unfolding candidate
  pair-if o w f =
      tests-fit
      (record {
        desk = o;
        filling = w.filling;
        value = both (le-leb _ _ w.low) (le-leb _ _ w.high);
        new = λ i l. refute _ (λ e. f i l (same-owned _ _ e));
      })

zero-held : (v : OwnedValue) → zero_held v ≡ true → v ≡ no_value
unfolding zero_held blank
zero-held v e =
    let g = (and-eq-true_iff (eqb v.desk 0) _).0 e in
    let h = (and-eq-true_iff (eqb v.pair.filling 0) _).0 g.1 in
    λ i. record {
      desk = eqb-true v.desk 0 g.0 i;
      pair = record { filling = eqb-true v.pair.filling 0 h.0 i; value = cell_back (is-blank (cell_of v.pair.value) h.1 i) };
    }

held-zero : (v : OwnedValue) → v ≡ no_value → zero_held v ≡ true
unfolding zero_held blank
held-zero v e =
    both (eq-eqb _ _ (ap (λ (m : OwnedValue). m.desk) e))
    (both (eq-eqb _ _ (ap (λ (m : OwnedValue). m.pair.filling) e)) (ap (λ (m : OwnedValue). is_blank (cell_of m.pair.value)) e ∙ blank-is))

-- ---- all of them

module _ (d : Design) (h : Held) (e : lawful_held d h ≡ true) where
  -- the five tests of the record
  held-tests : (h.desk < desks) × (h.count ≤ 64) × (shares_kept h ≡ true) × (all 64 (held_lawful d h) ≡ true) × (ranges_lawful d h ≡ true)
  unfolding lawful_held
  held-tests =
      let a = (and-eq-true_iff (ltb h.desk desks) _).0 e in
      let b = (and-eq-true_iff (leb h.count 64) _).0 a.1 in
      let c = (and-eq-true_iff (shares_kept h) _).0 b.1 in
      let g = (and-eq-true_iff (all 64 (held_lawful d h)) _).0 c.1 in
      (ltb-true _ _ a.0, leb-true _ _ b.0, c.0, g.0, g.1)

  pub held-count : h.count ≤ 64
  held-count = held-tests.1

  held_share : (x : ℕ) → x < desks → own_count h x ≤ places
  held_share x l = leb-true _ _ (all-at desks _ held-tests.2 x l)

  held-places : all 64 (held_lawful d h) ≡ true
  held-places = held-tests.3

  held-used : (i : ℕ) → i < h.count → held_fits d h i (held_at h i) ≡ true
  held-used i l = used-at 64 h.count (λ j. held_fits d h j (held_at h j)) _ held-places i (lt_of_lt_of_le l held-count) l

  held-rest : (i : ℕ) → i < 64 → h.count ≤ i → held_at h i ≡ no_value
  held-rest i l m = zero-held _ (unused-at 64 h.count _ (λ j. zero_held (held_at h j)) held-places i l m)

  held-ranges : (x : ℕ) → x < 4 → lawful_ranges d (ranges_at h x) ≡ true
  held-ranges x l = all-at desks _ held-tests.4 x l

  -- unused places are 0
  pub held-tidy : Tidy h
  held-tidy = record { few = held-count; unused = λ i l m. held-rest i m l; ranges = λ x l. ranges-tidy d (ranges_at h x) (held-ranges x l) }

pub held-says : (d : Design) (h : Held) → lawful_design d ≡ true → lawful_held d h ≡ true → LawfulHeld d h
held-says d h w e =
    record {
      count = held-count d h e;
      named = (held-tests d h e).0;
      desk = λ i l. (fits-tests d h i _ (held-used d h e i l)).desk;
      share = held_share d h e;
      pair = λ i l. pair-says d h i _ (held-used d h e i l);
      once = λ i j l m. pair-new d h j _ w (held-used d h e j m) i l;
      rest = held-rest d h e;
      ranges = λ x l. ranges-say d (ranges_at h x) (held-ranges d h e x l);
    }

pub held-if : {d : Design} {h : Held} → lawful_design d ≡ true → LawfulHeld d h → lawful_held d h ≡ true
unfolding lawful_held
held-if {d} {h} g w =
    both (lt-ltb _ _ w.named)
    (both (le-leb _ _ w.count)
    (both (all_true desks _ (λ x l. le-leb _ _ (w.share x l)))
    (both (all-places 64 h.count _ _ (λ j _ m. pair-if d h j _ (w.desk j m) (w.pair j m) (λ i l. w.once i j l m)) (λ i l m. held-zero _ (w.rest i l m)))
    (all_true desks _ (λ x l. ranges-if d (ranges_at h x) g (w.ranges x l))))))

-- the counts stay inside the arrays, and every place names a filling that has a place; how long the arrays are is what owning the record tells (`held-sized`)
pub held-bounded : (d : Design) (h : Held) → lawful_design d ≡ true → lawful_held d h ≡ true → HeldSized h → Bounded h
held-bounded d h w e z =
    record {
      count = held-count d h e;
      filling = in_array h.values no_value 64 h.count (λ v. v.pair.filling < 8) z.values
          (λ i l. lt_of_lt_of_le (pair-says d h i _ (held-used d h e i l)).filling (design-says d w).fillings) (held-rest d h e) (lit< tt);
      ranges = λ x. desk (λ s. s.count ≤ 8) x (λ l. ranges-count d (ranges_at h x) (held-ranges d h e x l)) (lit≤ tt);
      range = λ x i. desk (λ s. (range_at s i).filling < 8) x (λ l. ranges-filling d (ranges_at h x) w (held-ranges d h e x l) (z.list x l) i) (lit< tt);
    }
  where
    -- a desk, or none
    desk : (P : DeskRanges → Type 0) (x : ℕ) → (x < 4 → P (ranges_at h x)) → P no_ranges → P (ranges_at h x)
    desk P x f n =
        ⊎_elim (λ (q : ltb x 4 ≡ true). f (ltb-true x 4 q))
        (λ (q : ltb x 4 ≡ false). subst P (sym (past_end h.ranges no_ranges 4 x z.ranges (ltb-false x 4 q))) n) (dec (ltb x 4))

-- ---- the held values as a list

pub length-values : (h : Held) → length (values_of h) ≡ h.count
unfolding values_of
length-values h = length-tab h.count _

pub values-at : (h : Held) (i : ℕ) → i < h.count → owned_at (values_of h) i ≡ owned_of (held_at h i)
unfolding values_of
values-at h i l = tab-at no_owned h.count _ i l

values-past : (h : Held) (i : ℕ) → h.count ≤ i → owned_at (values_of h) i ≡ no_owned
unfolding values_of
values-past h i l = tab-past no_owned h.count _ i l

-- how many of them are a desk's own
pub own_is : (h : Held) (x : ℕ) → length (own_among x (values_of h)) ≡ own_count h x
unfolding values_of own_count
own_is h x = own-count x h.count (λ i. owned_of (held_at h i))

-- ---- the ranges as lists

-- a desk's list
pub lists_at : (h : Held) (x : ℕ) → x < desks → ranges_of (lists_of h) x ≡ list_of (ranges_at h x)
unfolding lists_of
lists_at h x l = tab-at [] desks _ x l

pub length-lists : (h : Held) → length (lists_of h) ≡ desks
unfolding lists_of
length-lists h = length-tab desks _

-- the ranges of a tidy record are those of its lists
pub lists-kept : (h : Held) → Tidy h → HeldSized h → h.ranges ≡ tab desks (λ x. list_back (ranges_of (lists_of h) x))
lists-kept h t z =
    tab-of no_ranges desks _ h.ranges z.ranges (λ x l. sym (ap list_back (lists_at h x l) ∙ ranges-back (ranges_at h x) (t.ranges x l) (z.list x l)))

-- ---- the record and what it holds

-- a record with these values and ranges is the one that holds them
pub held_back : (d : Design) (h : Held) → lawful_held d h ≡ true → HeldSized h → held_of (holding_of h) ≡ h
unfolding held_of
held_back d h e z = λ i. record { desk = h.desk; count = length-values h i; values = sym values i; ranges = sym (lists-kept h (held-tidy d h e) z) i }
  where
    place : (i : ℕ) → i < 64 → held_at h i ≡ owned_back (owned_at (values_of h) i)
    place i l =
        ⊎_elim (λ (q : ltb i h.count ≡ true). sym (ap owned_back (values-at h i (ltb-true _ _ q))))
        (λ (q : ltb i h.count ≡ false). held-rest d h e i l (ltb-false _ _ q) ∙ sym (ap owned_back (values-past h i (ltb-false _ _ q))))
        (dec (ltb i h.count))

    values : h.values ≡ tab 64 (λ i. owned_back (owned_at (values_of h) i))
    values = tab-of no_value 64 _ h.values z.values place

-- what a lawful record holds fits
pub holding-fits : (d : Design) (h : Held) → lawful_held d h ≡ true → HoldingFits (scheme_of d) (holding_of h)
unfolding scheme_of
holding-fits d h e =
    record {
      named = (held-tests d h e).0;
      values = record {
        desk = λ i l. rw (values-at h i (at l)) (tests i (at l)).desk;
        few = λ x l. rw (own_is h x) (held_share d h e x l);
        filling = λ i l. rw (values-at h i (at l)) (tests i (at l)).filling;
        value = λ i l. rw (values-at h i (at l)) (tests i (at l)).value;
        once = λ i j l m. rw (values-at h i (lt_trans l (at m)), values-at h j (at m)) ((tests j (at m)).new i l);
      };
      ranges = record {
        count = length-lists h;
        lists = λ x l. rw (lists_at h x l) (list-fits d (ranges_at h x) (held-ranges d h e x l));
      };
    }
  where
    at : {i : ℕ} → i < length (values_of h) → i < h.count
    at l = rw (length-values h) at l

    tests : (i : ℕ) → i < h.count → Tests d h i (held_at h i)
    tests i l = fits-tests d h i (held_at h i) (held-used d h e i l)

-- what stands in the record that holds these values
held-at : (h : Holding) (i : ℕ) → i < 64 → held_at (held_of h) i ≡ owned_back (owned_at h.values i)
unfolding held_of
held-at h i l = tab-at no_value 64 _ i l

-- that record holds this
values-back : (h : Holding) → length h.values ≤ 64 → values_of (held_of h) ≡ h.values
unfolding values_of held_of
values-back h l = sym (tab-of no_owned (length h.values) _ h.values refl (λ i m. sym (ap owned_of (held-at h i (lt_of_lt_of_le m l)))))

-- each desk's ranges in that record
ranges-at : (h : Holding) (x : ℕ) → x < 4 → ranges_at (held_of h) x ≡ list_back (ranges_of h.ranges x)
unfolding held_of
ranges-at h x l = tab-at no_ranges 4 _ x l

lists_back : {S : Scheme} (h : Holding) → ListsFit S h.ranges → lists_of (held_of h) ≡ h.ranges
unfolding lists_of
lists_back h f =
    sym (tab-of [] desks _ h.ranges f.count
    (λ x l. sym (ap list_of (ranges-at h x l) ∙ list-back (ranges_of h.ranges x) (f.lists x l).few)))

pub holding-back : {S : Scheme} (h : Holding) → HoldingFits S h → holding_of (held_of h) ≡ h
unfolding held_of
holding-back h f = λ x. record { desk = h.desk; values = values-back h (values-few f.values) x; ranges = lists_back h f.ranges x }

-- its arrays are as long as they are
pub held-of-sized : (h : Holding) → HeldSized (held_of h)
unfolding held_of list_back
held-of-sized h =
    record {
      values = length-tab 64 _;
      ranges = length-tab desks _;
      list = λ x l. ap (λ (s : DeskRanges). length s.list) (tab-at no_ranges desks _ x l) ∙ length-tab 8 _;
    }

-- what fits is held by a lawful record
pub fit-held : (d : Design) (h : Holding) → HoldingFits (scheme_of d) h → lawful_held d (held_of h) ≡ true
unfolding lawful_held held_of scheme_of
fit-held d h w =
    both (lt-ltb _ _ w.named)
    (both (le-leb _ _ (values-few w.values))
    (both (all_true desks _ (λ x l. le-leb _ _ (share x l)))
    (both (all-places 64 (length h.values) _ _ (λ j l m. rw (held-at h j l) (tests-fit d (held_of h) j _
    (record {
      desk = w.values.desk j m;
      filling = w.values.filling j m;
      value = w.values.value j m;
      new = λ i b. rw (held-at h i (lt_trans b l)) (w.values.once i j b m);
    })))
    (λ i l m. held-zero _ (held-at h i l ∙ ap owned_back (get_or-eq_default h.values no_owned m))))
    (all_true desks _ (λ x l. rw (ranges-at h x l) (fit-ranges d (ranges_of h.ranges x) (w.ranges.lists x l)))))))
  where
    share : (x : ℕ) → x < desks → own_count (held_of h) x ≤ places
    share x l = rw (sym (own_is (held_of h) x) ∙ ap (λ (os : List Owned). length (own_among x os)) (values-back h (values-few w.values))) (w.values.few x l)
