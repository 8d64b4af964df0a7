-- Where nothing lacks a slice it is enough in every lawful database from which the same was fetched, and what lacks is needed. That a fetch that lacks is one
-- without which it isn't enough is proved in `MissingExactly.antt`. Assumes nothing.
use Prim.Native.Nat.{ℕ, zero, suc, ◌≤◌, ◌<◌}
use native.Mathlib.Decide.{dec_lt}
use native.Mathlib.Nat.{eq-or-lt_of_le}
use native.Mathlib.Omega.{arith}
use mathlib.Core.Path.{◌≡◌, refl, sym, ap, subst, ◌∙◌}
use mathlib.Core.Logic.{◌⊎◌, inl, inr, ⊎_elim}
use mathlib.Core.Bool.{Bool, true, false, cond, ◌&&◌, ◌||◌, and-eq-true_iff}
use mathlib.Core.List.{List, [], ◌∷◌}
use borrow.Author.Tests.{eqb-true, eq-eqb, ne_eqb, leb-true, leb-false, le-leb, not-true, not-false}
use lib.Dec.{eqb, leb}
use Rattle.finite.specs.Finite.{first_from}
use Rattle.finite.proofs.Bools.{both, clash, or_cases, or_left, or-second}
use Rattle.finite.proofs.First.{First, first-from, first_past}
use Rattle.finite.proofs.Search.{any_found, below_suc}
use Rattle.model.specs.Cell.{Cell, numbered, is_blank, equal}
use Rattle.model.specs.Scheme.{Column, same_column, Scheme}
use Rattle.model.specs.Database.{Database, Has, has, Lawful}
use Rattle.model.specs.Cache.{RowSet, Inside, Held}
use Rattle.model.specs.Ranges.{Range, in_range, some_range, range_holds}
use Rattle.model.specs.Holding.{Owned, Holding, all_ranges, one, pairs_hold, ranges_hold, held_in}
use Rattle.model.specs.Slice.{Slice, Fetched, Enough}
use Rattle.model.specs.Missing.{Fetch, value, span, fetch_column, fetch_first, Fulfilled, AllFulfilled, covers, spans, some_fetch, is_fetched, is_spanned, known, Needed, by_held, by_row, Lack, nothing, lacks, or_lack, is_open, lack_of, lack_in, lack_below, pair_lack, first_open, gap_end, gap_lack, range_lack, link_lack, row_lack, missing}
use Rattle.model.proofs.CellLaws.{equal-same, equal-self}
use Rattle.model.proofs.DatabaseLaws.{same-column, same-column-self, has-Has, has-full}
use Rattle.model.proofs.RangeLaws.{in-says, says-in}
use Rattle.model.proofs.SliceLaws.{has_there}

-- ---- the first that lacks

or_nothing : (a b : Lack) → or_lack a b ≡ nothing → (a ≡ nothing) × (b ≡ nothing)
or_nothing nothing b e = (refl, e)
or_nothing (lacks f) b e = absurd (let z : ◌≡◌ {A = ℕ} 0 1 = cc in omega arith)

or-lacks : (a b : Lack) {f : Fetch} → or_lack a b ≡ lacks f → (a ≡ lacks f) ⊎ (b ≡ lacks f)
or-lacks nothing b e = inr e
or-lacks (lacks g) b e = inl e

nothing-not : {f : Fetch} → lacks f ≡ nothing → ⊥
nothing-not e = let z : ◌≡◌ {A = ℕ} 0 1 = cc in omega arith

same-fetch : {f g : Fetch} → lacks f ≡ lacks g → f ≡ g
same-fetch e = cc

pub neither : (a b : Bool) → a || b ≡ false → (a ≡ false) × (b ≡ false)
neither true b e = clash refl e
neither false b e = (refl, e)

cond-shut : (b : Bool) (f : Fetch) → cond b (lacks f) nothing ≡ nothing → b ≡ false
cond-shut true f e = absurd (nothing-not e)
cond-shut false f e = refl

cond-nothing : (b : Bool) (a : Lack) → cond b a nothing ≡ nothing → b ≡ true → a ≡ nothing
cond-nothing true a e t = e
cond-nothing false a e t = clash t refl

cond-lacks : (b : Bool) (a : Lack) {f : Fetch} → cond b a nothing ≡ lacks f → (b ≡ true) × (a ≡ lacks f)
cond-lacks true a e = (refl, e)
cond-lacks false a {f} e = absurd (let z : ◌≡◌ {A = ℕ} 0 1 = cc in omega arith)

pub below-nothing : (n : ℕ) (f : ℕ → Lack) → lack_below n f ≡ nothing → (i : ℕ) → i < n → f i ≡ nothing
unfolding lack_below
below-nothing zero f e i l = absurd (omega arith)
below-nothing (suc n) f e i l =
    let q = or_nothing (lack_below n f) (f n) e in
    ⊎_elim (λ x. ap f x ∙ q.1) (λ x. below-nothing n f q.0 i x) (below_suc l)

below-lacks : (n : ℕ) (f : ℕ → Lack) {g : Fetch} → lack_below n f ≡ lacks g → (i : ℕ) × (i < n) × (f i ≡ lacks g)
unfolding lack_below
below-lacks zero f e = absurd (let z : ◌≡◌ {A = ℕ} 0 1 = cc in omega arith)
below-lacks (suc n) f e =
    ⊎_elim (λ x. let q = below-lacks n f x in (q.0, omega (arith, q.1), q.2)) (λ x. (n, omega arith, x)) (or-lacks (lack_below n f) (f n) e)

-- not blank, and not known
pub record Open (S : Scheme) (D : Database) (fs : List Fetch) (k : Column) (v : Cell) : Type 0 where
  pub full : is_blank v ≡ false
  pub unknown : known S D fs k v ≡ false

module _ (S : Scheme) (D : Database) (fs : List Fetch) (k : Column) (v : Cell) where
  open-says : is_open S D fs k v ≡ true → Open S D fs k v
  unfolding is_open
  open-says e = let q = neither (is_blank v) (known S D fs k v) (not-true _ e) in record { full = q.0; unknown = q.1 }

  shut-known : is_open S D fs k v ≡ false → is_blank v ≡ false → known S D fs k v ≡ true
  unfolding is_open
  shut-known e n = ⊎_elim (λ x. clash x n) (λ x. x) (or_cases (is_blank v) (known S D fs k v) (not-false _ e))

  lack-shut : lack_of S D fs k v ≡ nothing → is_open S D fs k v ≡ false
  unfolding lack_of
  lack-shut e = cond-shut (is_open S D fs k v) (value k v) e

  -- what lacks is the value that was asked about
  lack-says : {f : Fetch} → lack_of S D fs k v ≡ lacks f → (value k v ≡ f) × Open S D fs k v
  unfolding lack_of
  lack-says {f} e = let q = cond-lacks (is_open S D fs k v) (lacks (value k v)) e in (same-fetch q.1, open-says q.0)

-- ---- the first number of a range that lacks, and those behind it

-- a number above one that isn't blank isn't
full-above : (x z : ℕ) → is_blank (numbered x) ≡ false → x ≤ z → is_blank (numbered z) ≡ false
unfolding is_blank
full-above zero z n l = clash refl n
full-above (suc x) z n l = ap (λ (b : Bool). b && eqb 0 0) (ne_eqb z 0 (λ e. omega arith))

-- a number that a span has is known to be whole
pub spanned-known : (S : Scheme) (D : Database) (fs : List Fetch) (k : Column) (x : ℕ) → is_spanned fs k x ≡ true → known S D fs k (numbered x) ≡ true
unfolding known some_fetch spans covers
spanned-known S D fs k x e = sym (or_left (is_fetched fs k (numbered x)) _ (go fs e))
  where
    one-fetch : (f : Fetch) → spans f k x ≡ true → covers f k (numbered x) ≡ true
    one-fetch (value j w) t = clash t refl
    one-fetch (span j low high) t = t

    go : (gs : List Fetch) → is_spanned gs k x ≡ true → is_fetched gs k (numbered x) ≡ true
    go [] t = clash t refl
    go (f ∷ gs) t =
        ⊎_elim (λ y. sym (or_left (covers f k (numbered x)) _ (one-fetch f y))) (λ y. or-second (covers f k (numbered x)) _ (go gs y)) (or_cases (spans f k x) (is_spanned gs k x) t)

module _ (S : Scheme) (D : Database) (fs : List Fetch) (k : Column) (low high : ℕ) where
  range-shut : gap_lack fs k high (first_open S D fs k high low) ≡ nothing → (x : ℕ) → low ≤ x → x ≤ high → is_open S D fs k (numbered x) ≡ false
  unfolding gap_lack first_open
  range-shut e x a b =
      let f = first-from (suc high) (λ y. is_open S D fs k (numbered y)) low (omega arith) in
      let x₀ = first_from (suc high) (λ y. is_open S D fs k (numbered y)) low in
      let n = cond-shut (leb x₀ high) (span k x₀ (gap_end fs k high x₀)) e in
      let m = leb-false x₀ high n in
      f.none x a (omega arith)

  -- the gap that lacks: it begins with an open number of the range, ends in the range, and no span has a number of it
  record Gap (x y : ℕ) : Type 0 where
    above : low ≤ x
    order : x ≤ y
    below : y ≤ high
    first : Open S D fs k (numbered x)
    fresh : (z : ℕ) → x ≤ z → z ≤ y → is_spanned fs k z ≡ false

  gap_at : (x : ℕ) → first_open S D fs k high low ≡ x → x ≤ high → Gap x (gap_end fs k high x)
  unfolding gap_end first_open
  gap_at x e l =
      record { above = f.start; order = omega (arith, more); below = omega (arith, g.bound); first = o; fresh = λ z a b. g.none z a (omega (arith, more)) }
    where
      p : ℕ → Bool
      p y = is_open S D fs k (numbered y)

      into : Dec (suc high < low) → low ≤ suc high
      into (yes m) = absurd (omega (arith, first_past (suc high) p low (omega arith)))
      into (no m) = omega arith

      f : First (suc high) p low x
      f = subst (First (suc high) p low) e (first-from (suc high) p low (into (dec_lt (suc high) low)))

      g : First (suc high) (is_spanned fs k) x (first_from (suc high) (is_spanned fs k) x)
      g = first-from (suc high) (is_spanned fs k) x (omega arith)

      o : Open S D fs k (numbered x)
      o = open-says S D fs k (numbered x) (f.here (omega arith))

      more : x < first_from (suc high) (is_spanned fs k) x
      more = ⊎_elim (λ y. clash (spanned-known S D fs k x (subst (λ (z : ℕ). is_spanned fs k z ≡ true) (sym y) (g.here (omega arith)))) o.unknown) (λ y. y)
          (eq-or-lt_of_le g.start)

  range-gap : {f : Fetch} → gap_lack fs k high (first_open S D fs k high low) ≡ lacks f → (x y : ℕ) × (span k x y ≡ f) × Gap x y
  unfolding gap_lack
  range-gap e =
      let q = cond-lacks (leb (first_open S D fs k high low) high) _ e in
      (first_open S D fs k high low, gap_end fs k high (first_open S D fs k high low), same-fetch q.1, gap_at _ refl (leb-true _ _ q.0))

-- ---- what is known is whole

module _ {at : ℕ → ℕ} {D B : Database} (P : Slice at D B) where
  fetched-whole : (fs : List Fetch) → AllFulfilled at D B fs → (k : Column) (v : Cell) → is_fetched fs k v ≡ true → Fetched at D B k v
  unfolding AllFulfilled some_fetch Fulfilled covers
  fetched-whole [] a k v e = clash e refl
  fetched-whole (f ∷ fs) a k v e = ⊎_elim (λ x. one-whole f a.0 x) (λ x. fetched-whole fs a.1 k v x) (or_cases (covers f k v) (is_fetched fs k v) e)
    where
      one-whole : (f : Fetch) → Fulfilled at D B f → covers f k v ≡ true → Fetched at D B k v
      one-whole (value j w) a x =
          let q = (and-eq-true_iff (same_column j k) (equal w v)).0 x in
          subst (λ (c : Column). Fetched at D B c v) (same-column j k q.0) (subst (Fetched at D B j) (equal-same w v q.1) a)
      one-whole (span j low high) a x =
          let q = (and-eq-true_iff (same_column j k) _).0 x in
          let i = (and-eq-true_iff (eqb v.issue 0) _).0 q.1 in
          let l = (and-eq-true_iff (leb low v.number) (leb v.number high)).0 i.1 in
          let e : numbered v.number ≡ v = λ t. record { number = v.number; issue = sym (eqb-true v.issue 0 i.0) t } in
          subst (λ (c : Column). Fetched at D B c v) (same-column j k q.0) (subst (Fetched at D B j) e (a v.number (leb-true _ _ l.0) (leb-true _ _ l.1)))

  module _ {S : Scheme} (lawful : Lawful S B) (fs : List Fetch) (a : AllFulfilled at D B fs) where
    -- THEOREM: a value of a unique column that a row of the slice has there is whole
    pub unique-whole : (k : Column) (v : Cell) (r : ℕ) → S.unique k ≡ true → Has D k v r → Fetched at D B k v
    unfolding Fetched
    unique-whole k v r u h s g = record { row = r; live = h.live; number = lawful.unique k v (at r) s u (has_there P h) g }

    known-whole : (k : Column) (v : Cell) → known S D fs k v ≡ true → Fetched at D B k v
    unfolding known
    known-whole k v e =
        ⊎_elim (fetched-whole fs a k v)
        (λ x. let q = (and-eq-true_iff (S.unique k) _).0 x in
        let f = any_found D.size (has D k v) q.1 in
        unique-whole k v f.0 q.0 (has-Has D k v f.0 f.2))
        (or_cases (is_fetched fs k v) _ e)

    -- where a value does not lack it is whole, for a blank is no row's
    shut-whole : (k : Column) (v : Cell) → is_open S D fs k v ≡ false → Fetched at D B k v
    unfolding Fetched
    shut-whole k v e s h = known-whole k v (shut-known S D fs k v e (has-full h)) s h

    whole : (k : Column) (v : Cell) → lack_of S D fs k v ≡ nothing → Fetched at D B k v
    whole k v e = shut-whole k v (lack-shut S D fs k v e)

    pairs-whole : (os : List Owned) → lack_in (pair_lack S D fs) os ≡ nothing → (k : Column) (v : Cell) → pairs_hold S os k v ≡ true → Fetched at D B k v
    unfolding lack_in pair_lack pairs_hold one
    pairs-whole [] e k v h = clash h refl
    pairs-whole (o ∷ os) e k v h =
        let q = or_nothing (pair_lack S D fs o) (lack_in (pair_lack S D fs) os) e in
        ⊎_elim
        (λ x. let c = (and-eq-true_iff (same_column (S.filling o.pair.filling).column k) (equal o.pair.value v)).0 x in
        subst (λ (j : Column). Fetched at D B j v) (same-column _ k c.0)
        (subst (Fetched at D B (S.filling o.pair.filling).column) (equal-same _ v c.1) (whole (S.filling o.pair.filling).column o.pair.value q.0)))
        (pairs-whole os q.1 k v)
        (or_cases (same_column (S.filling o.pair.filling).column k && equal o.pair.value v) (pairs_hold S os k v) h)

    ranges-whole : (qs : List Range) → lack_in (range_lack S D fs) qs ≡ nothing → (k : Column) (v : Cell) → ranges_hold S qs k v ≡ true → Fetched at D B k v
    unfolding lack_in range_lack some_range range_holds
    ranges-whole [] e k v h = clash h refl
    ranges-whole (r ∷ qs) e k v h =
        let q = or_nothing (range_lack S D fs r) (lack_in (range_lack S D fs) qs) e in
        ⊎_elim
        (λ x. let c = (and-eq-true_iff (same_column (S.filling r.filling).column k) (in_range r v)).0 x in
        let i = in-says r v c.1 in
        let y : numbered v.number ≡ v = λ t. record { number = v.number; issue = sym i.issue t } in
        let z = range-shut S D fs (S.filling r.filling).column r.low r.high q.0 v.number i.low i.high in
        subst (λ (j : Column). Fetched at D B j v) (same-column _ k c.0)
        (subst (Fetched at D B (S.filling r.filling).column) y (shut-whole (S.filling r.filling).column (numbered v.number) z)))
        (ranges-whole qs q.1 k v)
        (or_cases (same_column (S.filling r.filling).column k && in_range r v) (ranges_hold S qs k v) h)

    -- THEOREM: where nothing lacks, the slice is enough
    pub nothing-enough : (h : Holding) (X : RowSet) → Inside X D.live → missing S D h X fs ≡ nothing → Enough S at D B (held_in S h) X
    unfolding missing row_lack link_lack
    nothing-enough h X ins e =
        let q = or_nothing (lack_in (pair_lack S D fs) h.values) _ e in
        let p = or_nothing (lack_in (range_lack S D fs) (all_ranges h.ranges)) _ q.1 in
        record {
          held = λ k v x. ⊎_elim (pairs-whole h.values q.0 k v) (ranges-whole (all_ranges h.ranges) p.0 k v)
              (or_cases (pairs_hold S h.values k v) (ranges_hold S (all_ranges h.ranges) k v) x);
          demanded = λ i r v l x g.
              let a = cond-nothing (X r) _ (below-nothing D.size (row_lack S D fs X) p.1 r (D.finite r (ins r x))) x in
              let b = cond-nothing (eqb (D.table r) (S.constraint i).source.table) _ (below-nothing S.constraints (link_lack S D fs r) a i l) (eq-eqb _ _ g.table) in
              subst (Fetched at D B (S.constraint i).target) (equal-same _ v g.value) (whole (S.constraint i).target (D.cell r (S.constraint i).source.place) b);
        }

-- ---- what lacks is needed

module _ (S : Scheme) (D : Database) (fs : List Fetch) where
  pairs-lack : (os : List Owned) {f : Fetch} → lack_in (pair_lack S D fs) os ≡ lacks f →
      (k : Column) × (v : Cell) × (value k v ≡ f) × (pairs_hold S os k v ≡ true) × Open S D fs k v
  unfolding lack_in pair_lack pairs_hold one
  pairs-lack [] e = absurd (nothing-not (sym e))
  pairs-lack (o ∷ os) e =
      ⊎_elim
      (λ x.
      let k = (S.filling o.pair.filling).column in
      let v = o.pair.value in
      let l = lack-says S D fs k v x in
      (k, v, l.0, sym (or_left (same_column k k && equal v v) (pairs_hold S os k v) (both (same-column-self k) (equal-self v l.1.full))), l.1))
      (λ x.
      let q = pairs-lack os x in
      (q.0, q.1, q.2, or-second (same_column (S.filling o.pair.filling).column q.0 && equal o.pair.value q.1) (pairs_hold S os q.0 q.1) q.3, q.4))
      (or-lacks (pair_lack S D fs o) (lack_in (pair_lack S D fs) os) e)

  -- a gap of held numbers
  record HeldGap (qs : List Range) (k : Column) (x y : ℕ) : Type 0 where
    order : x ≤ y
    first : Open S D fs k (numbered x)
    held : (z : ℕ) → x ≤ z → z ≤ y → ranges_hold S qs k (numbered z) ≡ true
    fresh : (z : ℕ) → x ≤ z → z ≤ y → is_spanned fs k z ≡ false

  ranges-lack : (qs : List Range) {f : Fetch} → lack_in (range_lack S D fs) qs ≡ lacks f → (k : Column) × (x y : ℕ) × (span k x y ≡ f) × HeldGap qs k x y
  unfolding lack_in range_lack some_range range_holds
  ranges-lack [] e = absurd (nothing-not (sym e))
  ranges-lack (r ∷ qs) e =
      ⊎_elim
      (λ t.
      let k = (S.filling r.filling).column in
      let q = range-gap S D fs k r.low r.high t in
      let g = q.3 in (
        k,
        q.0,
        q.1,
        q.2,
        record {
          order = g.order;
          first = g.first;
          held = λ z a b. sym (or_left (same_column k k && in_range r (numbered z)) (ranges_hold S qs k (numbered z)) (both (same-column-self k) (says-in r (numbered z) (record {
            full = full-above q.0 z g.first.full a;
            issue = refl;
            low = omega (arith, g.above);
            high = omega (arith, g.below);
          }))));
          fresh = g.fresh;
        },
      ))
      (λ t.
      let q = ranges-lack qs t in
      let g = q.4 in (
        q.0,
        q.1,
        q.2,
        q.3,
        record {
          order = g.order;
          first = g.first;
          held = λ z a b. or-second (same_column (S.filling r.filling).column q.0 && in_range r (numbered z)) (ranges_hold S qs q.0 (numbered z)) (g.held z a b);
          fresh = g.fresh;
        },
      ))
      (or-lacks (range_lack S D fs r) (lack_in (range_lack S D fs) qs) e)

  -- what is said of a fetch that lacks: all of it is needed, its first value is among it and must still be fetched, and where it is a span no other span of the
  -- list has a number of it
  pub record Lacking (H : Held) (X : RowSet) (f : Fetch) : Type 0 where
    pub needed : (k : Column) (v : Cell) → covers f k v ≡ true → Needed S D H X k v
    pub begins : covers f (fetch_column f) (fetch_first f) ≡ true
    pub first : Open S D fs (fetch_column f) (fetch_first f)
    pub fresh : (k : Column) (x : ℕ) → spans f k x ≡ true → is_spanned fs k x ≡ false

  value-lacking : {H : Held} {X : RowSet} (k : Column) (v : Cell) → Needed S D H X k v → Open S D fs k v → Lacking H X (value k v)
  unfolding covers spans fetch_column fetch_first
  value-lacking {H} {X} k v n o =
      record {
        needed = λ j w e. let q = (and-eq-true_iff (same_column k j) (equal v w)).0 e in
            subst (λ (i : Column). Needed S D H X i w) (same-column k j q.0) (subst (Needed S D H X k) (equal-same v w q.1) n);
        begins = both (same-column-self k) (equal-self v o.full);
        first = o;
        fresh = λ j x e. clash e refl;
      }

  span-lacking : {H : Held} {X : RowSet} (qs : List Range) → ((k : Column) (v : Cell) → ranges_hold S qs k v ≡ true → H k v ≡ true) →
      (k : Column) (x y : ℕ) → HeldGap qs k x y → Lacking H X (span k x y)
  unfolding covers spans fetch_column fetch_first
  span-lacking {H} {X} qs into k x y g =
      record {
        needed = λ j w e.
            let q = (and-eq-true_iff (same_column k j) _).0 e in
            let i = (and-eq-true_iff (eqb w.issue 0) _).0 q.1 in
            let l = (and-eq-true_iff (leb x w.number) (leb w.number y)).0 i.1 in
            let c : numbered w.number ≡ w = λ t. record { number = w.number; issue = sym (eqb-true w.issue 0 i.0) t } in
            subst (λ (m : Column). Needed S D H X m w) (same-column k j q.0)
            (subst (Needed S D H X k) c (by_held (into k (numbered w.number) (g.held w.number (leb-true _ _ l.0) (leb-true _ _ l.1)))));
        begins = both (same-column-self k) (both (eq-eqb 0 0 refl) (both (le-leb x x (omega arith)) (le-leb x y g.order)));
        first = g.first;
        fresh = λ j z e.
            let q = (and-eq-true_iff (same_column k j) _).0 e in
            let l = (and-eq-true_iff (leb x z) (leb z y)).0 q.1 in
            subst (λ (m : Column). is_spanned fs m z ≡ false) (same-column k j q.0) (g.fresh z (leb-true _ _ l.0) (leb-true _ _ l.1));
      }

  -- THEOREM: what lacks is needed, all of it, and its first value is neither blank nor known
  pub missing-needed : (h : Holding) (X : RowSet) → Inside X D.live → {f : Fetch} → missing S D h X fs ≡ lacks f → Lacking (held_in S h) X f
  unfolding missing row_lack link_lack
  missing-needed h X ins {f} e =
      ⊎_elim
      (λ x.
      let q = pairs-lack h.values x in
      subst L q.2 (value-lacking q.0 q.1 (by_held (sym (or_left (pairs_hold S h.values q.0 q.1) (ranges_hold S (all_ranges h.ranges) q.0 q.1) q.3))) q.4))
      (λ y. ⊎_elim
      (λ x.
      let q = ranges-lack (all_ranges h.ranges) x in
      subst L q.3 (span-lacking (all_ranges h.ranges) (λ k v. or-second (pairs_hold S h.values k v) (ranges_hold S (all_ranges h.ranges) k v)) q.0 q.1 q.2 q.4))
      (λ x.
      let r = below-lacks D.size (row_lack S D fs X) x in
      let a = cond-lacks (X r.0) _ r.2 in
      let i = below-lacks S.constraints (link_lack S D fs r.0) a.1 in
      let b = cond-lacks (eqb (D.table r.0) (S.constraint i.0).source.table) _ i.2 in
      let v = D.cell r.0 (S.constraint i.0).source.place in
      let l = lack-says S D fs (S.constraint i.0).target v b.1 in
      subst L l.0 (value-lacking (S.constraint i.0).target v
      (by_row i.0 r.0 i.1 a.0 (record { live = ins r.0 a.0; table = eqb-true _ _ b.0; value = equal-self v l.1.full }) refl) l.1))
      (or-lacks (lack_in (range_lack S D fs) (all_ranges h.ranges)) _ y))
      (or-lacks (lack_in (pair_lack S D fs) h.values) _ e)
    where
      L : Fetch → Type 0
      L g = Lacking (held_in S h) X g
