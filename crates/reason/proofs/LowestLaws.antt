-- The lowest of what is held that a row has, one after the other. Assumes nothing.
use Prim.Native.Nat.{ℕ, zero, suc, ◌+◌, ◌≤◌, ◌<◌}
use native.Mathlib.Numerals.{add-one}
use native.Mathlib.Omega.{arith}
use mathlib.Core.Path.{◌≡◌, refl, sym, ap, subst, ◌∙◌}
use mathlib.Core.Logic.{◌⊎◌, inl, inr, ⊎_elim}
use mathlib.Core.Bool.{Bool, true, false, cond, ◌&&◌, ◌||◌, not}
use mathlib.Core.List.{List}
use borrow.Author.Tests.{le-leb, le-ltb, lt-leb, lt-ltb}
use lib.Dec.{leb, ltb}
use lib.ListN.{get_or}
use Rattle.finite.specs.Finite.{any, lower_then}
use Rattle.finite.proofs.Bools.{clash, order, refute, same_number}
use Rattle.finite.proofs.Order.{lower-apart, lower-alike}
use Rattle.finite.proofs.Search.{any_found, any-true, below_suc}
use Rattle.finite.proofs.Tables.{tab-at, length-tab}
use Rattle.model.specs.Cell.{is_blank}
use Rattle.model.specs.Scheme.{Scheme}
use Rattle.model.specs.Database.{Database, has}
use Rattle.model.specs.Ranges as Model
use Rattle.model.specs.Ranges.{has_range, same_range, some_range}
use Rattle.model.specs.Holding.{desks, Pair, Owned, no_owned, held_count, held_pair, some_holds, all_ranges, some_holds_range}
use Rattle.model.specs.Reason as Reason
use Rattle.model.specs.Reason.{by_value, by_range, origin_count, origin_at, is_held, has_origin, lower_origin, lowest_held}
use Rattle.model.proofs.DatabaseLaws.{has-Has, has-full}
use Rattle.model.proofs.RangeLaws.{same-range, same-range-self}
use Rattle.model.proofs.RangesFit.{some-any}
use Rattle.model.proofs.HoldingLaws.{held-at, at_held}
use Rattle.model.proofs.OriginLaws.{lower-origins, at-origin, lowest-unique}
use Rattle.state.specs.declared.design.Filling.{Filling}
use Rattle.state.specs.declared.design.Design.{Design}
use Rattle.state.specs.declared.held.HeldValue.{HeldValue}
use Rattle.state.specs.declared.held.Range.{Range}
use Rattle.state.specs.declared.held.DeskRanges.{DeskRanges}
use Rattle.state.specs.declared.held.Held.{Held}
use Rattle.state.specs.Design.{no_filling}
use Rattle.state.specs.Held.{no_ranges, held_at, range_at, ranges_at}
use Rattle.state.specs.Meaning.{cell_of, column_of, scheme_of, pair_of, range_of, owned_of, values_of, lists_of, holding_of}
use Rattle.state.proofs.RangeLists.{ranges-any, some_at}
use Rattle.reason.specs.declared.lowest.Origin.{Origin}
use Rattle.reason.specs.declared.lowest.Origin.TheVariants as O
use Rattle.reason.specs.declared.lowest.Lowest.{Lowest}
use Rattle.reason.specs.Lowest.{origin_of, none_found, lower_of, lowest_below, lowest_of_values, lowest_of_ranges, lowest_of_desks}

-- ---- the lowest of those that are Q

pub record Least (Q : Reason.Origin → Type 0) (low : Lowest) : Type 0 where
  pub none : low.found ≡ false → (o : Reason.Origin) → Q o → ⊥
  pub is : low.found ≡ true → Q (origin_of low.origin)
  pub least : low.found ≡ true → (o : Reason.Origin) → Q o → lower_origin o (origin_of low.origin) ≡ false

least-of : {P Q : Reason.Origin → Type 0} (low : Lowest) → Least P low → ((o : Reason.Origin) → P o → Q o) → ((o : Reason.Origin) → Q o → P o) → Least Q low
least-of low u f g =
    record { none = λ e o q. u.none e o (g o q); is = λ e. f _ (u.is e); least = λ e o q. u.least e o (g o q) }

-- one more, which the row has or not
module _ (Q : Reason.Origin → Type 0) (low : Lowest) (u : Least Q low) (x : Origin) where
  step : (has found lower : Bool) → found ≡ low.found → lower ≡ lower_origin (origin_of x) (origin_of low.origin) →
      Least (λ o. Q o ⊎ ((o ≡ origin_of x) × (has ≡ true))) (cond (has && (not found || lower)) (record { found = true; origin = x }) low)
  step false found lower e f =
      least-of low u (λ o q. inl q) (λ o q. ⊎_elim (λ y. y) (λ y. clash y.1 refl) q)
  step true false lower e f =
      record {
        none = λ z. clash refl z;
        is = λ _. inr (refl, refl);
        least = λ _ o q. ⊎_elim (λ y. absurd (u.none (sym e) o y)) (λ y. subst (λ (p : Reason.Origin). lower_origin p (origin_of x) ≡ false) (sym y.0) (lower-origins.self (origin_of x))) q;
      }
  step true true true e f =
      record {
        none = λ z. clash refl z;
        is = λ _. inr (refl, refl);
        least = λ _ o q. ⊎_elim
            (λ y. refute (lower_origin o (origin_of x)) (λ t. clash (lower-origins.trans o (origin_of x) (origin_of low.origin) t (sym f)) (u.least (sym e) o y)))
            (λ y. subst (λ (p : Reason.Origin). lower_origin p (origin_of x) ≡ false) (sym y.0) (lower-origins.self (origin_of x))) q;
      }
  step true true false e f =
      record {
        none = λ z. clash (sym e) z;
        is = λ z. inl (u.is z);
        least = λ z o q. ⊎_elim (u.least z o) (λ y. ap (λ (p : Reason.Origin). lower_origin p (origin_of low.origin)) y.0 ∙ sym f) q;
      }

  least_more : (has : Bool) → Least (λ o. Q o ⊎ ((o ≡ origin_of x) × (has ≡ true))) (lower_of low x has)
  unfolding lower_of
  least_more has = step has low.found (lower_origin (origin_of x) (origin_of low.origin)) refl refl

module _ (S : Scheme) (D : Database) (r : ℕ) where
  -- one of the first n, which the row has
  abbrev OneOf : (ℕ → Origin) → ℕ → Reason.Origin → Type 0
  OneOf at n o = (i : ℕ) × (i < n) × (o ≡ origin_of (at i)) × (has_origin S D r (origin_of (at i)) ≡ true)

  least-below : (Q : Reason.Origin → Type 0) (low : Lowest) → Least Q low → (at : ℕ → Origin) (n : ℕ) → Least (λ o. Q o ⊎ OneOf at n o) (lowest_below S D r at n low)
  unfolding lowest_below
  least-below Q low u at zero = least-of low u (λ o q. inl q) (λ o q. ⊎_elim (λ y. y) (λ y. absurd (omega (arith, y.1))) q)
  least-below Q low u at (suc n) =
      least-of _ (least_more _ _ (least-below Q low u at n) (at n) (has_origin S D r (origin_of (at n))))
      (λ o q. ⊎_elim (λ y. ⊎_elim inl (λ z. inr (z.0, omega (arith, z.1), z.2, z.3)) y) (λ y. inr (n, omega arith, y.0, y.1)) q)
      (λ o q. ⊎_elim (λ y. inl (inl y)) (λ y. last o y (below_suc y.1)) q)
    where
      last : (o : Reason.Origin) (y : OneOf at (suc n) o) → (y.0 ≡ n) ⊎ (y.0 < n) → (Q o ⊎ OneOf at n o) ⊎ ((o ≡ origin_of (at n)) × (has_origin S D r (origin_of (at n)) ≡ true))
      last o y (inr l) = inl (inr (y.0, l, y.2, y.3))
      last o y (inl e) =
          inr (y.2 ∙ ap (λ (i : ℕ). origin_of (at i)) e, sym (ap (λ (i : ℕ). has_origin S D r (origin_of (at i))) e) ∙ y.3)

  -- a range of one of the first n desks, which the row has
  abbrev OfDesks : Held → ℕ → Reason.Origin → Type 0
  OfDesks h n o = (e : ℕ) × (e < n) × OneOf (λ i. O.Range (range_at (ranges_at h e) i)) (ranges_at h e).count o

  least-desks : (Q : Reason.Origin → Type 0) (low : Lowest) → Least Q low → (h : Held) (n : ℕ) → Least (λ o. Q o ⊎ OfDesks h n o) (lowest_of_desks S D r h.ranges n low)
  unfolding lowest_of_desks lowest_of_ranges
  least-desks Q low u h zero = least-of low u (λ o q. inl q) (λ o q. ⊎_elim (λ y. y) (λ y. absurd (omega (arith, y.1))) q)
  least-desks Q low u h (suc n) =
      least-of _ (least-below _ _ (least-desks Q low u h n) (λ i. O.Range (range_at (ranges_at h n) i)) (ranges_at h n).count)
      (λ o q. ⊎_elim (λ y. ⊎_elim inl (λ z. inr (z.0, omega (arith, z.1), z.2)) y) (λ y. inr (n, omega arith, y)) q)
      (λ o q. ⊎_elim (λ y. inl (inl y)) (λ y. last o y (below_suc y.1)) q)
    where
      last : (o : Reason.Origin) (y : OfDesks h (suc n) o) → (y.0 ≡ n) ⊎ (y.0 < n) →
          (Q o ⊎ OfDesks h n o) ⊎ OneOf (λ i. O.Range (range_at (ranges_at h n) i)) (ranges_at h n).count o
      last o y (inr l) = inl (inr (y.0, l, y.2))
      last o y (inl e) = inr (subst (λ (x : ℕ). OneOf (λ i. O.Range (range_at (ranges_at h x) i)) (ranges_at h x).count o) e y.2)

  -- ---- over the held record

  module _ (h : Held) where
    -- held, and the row has it
    abbrev Held? : Reason.Origin → Type 0
    Held? o = (is_held (holding_of h) o ≡ true) × (has_origin S D r o ≡ true)

    abbrev values : ℕ → Origin
    values i = O.Value (held_at h i).pair

    pair_is : (i : ℕ) → i < h.count → held_pair (holding_of h) i ≡ pair_of (held_at h i).pair
    unfolding values_of
    pair_is i l = ap (λ (o : Owned). o.pair) (tab-at no_owned h.count (λ j. owned_of (held_at h j)) i l)

    counted : held_count (holding_of h) ≡ h.count
    unfolding values_of
    counted = length-tab h.count _

    held-value : (o : Reason.Origin) → OneOf values h.count o → Held? o
    unfolding is_held has_origin
    held-value o y =
        let e = pair_is y.0 y.1 in
        subst Held? (sym y.2) (
          subst (λ (q : Pair). some_holds (holding_of h) q ≡ true) e
              (at_held (holding_of h) y.0 (omega (arith, counted, y.1)) (ap (λ (x : Pair). is_blank x.value) e ∙ has-full (has-Has D _ _ r y.3))),
          y.3,
        )

    value-held : (p : Pair) → Held? (by_value p) → OneOf values h.count (by_value p)
    unfolding is_held has_origin
    value-held p q =
        let f = held-at (holding_of h) p q.0 in
        let l : f.0 < h.count = omega (arith, counted, f.1) in
        let e : p ≡ pair_of (held_at h f.0).pair = sym f.2 ∙ pair_is f.0 l in
        (f.0, l, ap by_value e, subst (λ (x : Pair). has_origin S D r (by_value x) ≡ true) e q.1)

    -- some desk holds a range exactly if it is one of the record's
    range-any : (q : Model.Range) → some_holds_range (holding_of h) q ≡ any desks (λ e. some_at (λ x. same_range x q) (ranges_at h e))
    unfolding some_holds_range
    range-any q = sym (some-any (λ x. same_range x q) (all_ranges (lists_of h))) ∙ ranges-any (λ x. same_range x q) h

    held-range : (o : Reason.Origin) → OfDesks h desks o → Held? o
    unfolding is_held
    held-range o y =
        let z = y.2 in
        let s = ranges_at h y.0 in
        subst Held? (sym z.2) (
          range-any (range_of (range_at s z.0)) ∙
              any-true desks _ y.0 y.1 (any-true s.count _ z.0 z.1 (same-range-self (range_of (range_at s z.0)))),
          z.3,
        )

    range-held : (q : Model.Range) → Held? (by_range q) → OfDesks h desks (by_range q)
    unfolding is_held
    range-held q w =
        let f = any_found desks (λ e. some_at (λ x. same_range x q) (ranges_at h e)) (sym (range-any q) ∙ w.0) in
        let s = ranges_at h f.0 in
        let g = any_found s.count (λ i. same_range (range_of (range_at s i)) q) f.2 in
        let e = same-range (range_of (range_at s g.0)) q g.2 in
        (f.0, f.1, (g.0, g.1, ap by_range (sym e), subst (λ (x : Model.Range). has_origin S D r (by_range x) ≡ true) (sym e) w.1))

    back : (o : Reason.Origin) → Held? o → (⊥ ⊎ OneOf values h.count o) ⊎ OfDesks h desks o
    back (by_value p) q = inl (inr (value-held p q))
    back (by_range x) q = inr (range-held x q)

    least-all : Least Held? (lowest_of_desks S D r h.ranges 4 (lowest_of_values S D r h none_found))
    unfolding lowest_of_values
    least-all =
        least-of _ (least-desks _ _ (least-below (λ o. ⊥) none_found (record { none = λ e o q. q; is = λ e. clash e refl; least = λ e. clash e refl }) values h.count) h 4)
        (λ o q. ⊎_elim (λ y. ⊎_elim (λ z. absurd z) (held-value o) y) (held-range o) q) back

    -- the row has one, and this is the lowest
    pub lowest-found : any (origin_count (holding_of h)) (λ i. has_origin S D r (origin_at (holding_of h) i)) ≡ true → (a b : Lowest) →
        a ≡ lowest_of_values S D r h none_found → b ≡ lowest_of_desks S D r h.ranges 4 a → origin_of b.origin ≡ lowest_held S D (holding_of h) r
    lowest-found t a b e f =
        let u : Least Held? b = subst (Least Held?) (sym (f ∙ ap (lowest_of_desks S D r h.ranges 4) e)) least-all in
        let g = any_found (origin_count (holding_of h)) (λ i. has_origin S D r (origin_at (holding_of h) i)) t in
        let y = some b.found (λ z. u.none z (origin_at (holding_of h) g.0) (at-origin (holding_of h) S D r g.0 g.1 g.2, g.2)) in
        lowest-unique (holding_of h) S D r (origin_of b.origin) (u.is y).0 (u.is y).1 (λ q l m. u.least y q (l, m))
      where
        some : (b : Bool) → (b ≡ false → ⊥) → b ≡ true
        some true n = refl
        some false n = absurd (n refl)

-- ---- the order of two

-- in one filling values go before ranges
then-below : (a b : ℕ) → leb a b ≡ lower_then a b true
then-below a b = ⊎_elim
    (λ (l : a < b). le-leb a b (omega arith) ∙ sym (lt-ltb a b l) ∙ lower-apart a b true (λ e. omega arith))
    (⊎_elim
    (λ (e : a ≡ b). le-leb a b (omega arith) ∙ lower-alike a b true e)
    (λ (l : b < a). lt-leb a b l ∙ sym (le-ltb a b (omega arith)) ∙ lower-apart a b true (λ e. omega arith)))
    (order a b)

then-above : (a b : ℕ) → ltb a b ≡ lower_then a b false
then-above a b = ⊎_elim (λ (e : a ≡ b). le-ltb a b (omega arith) ∙ lower-alike a b false e) (λ n. lower-apart a b false n) (same_number a b)

-- of one that is told by its case
pub than-told : (x : Reason.Origin) (b o : Origin) (t : Bool) → b ≡ o → t ≡ lower_origin x (origin_of o) → t ≡ lower_origin x (origin_of b)
than-told x b o t e f = f ∙ ap (λ (y : Origin). lower_origin x (origin_of y)) (sym e)

pub value-than-range : (v : HeldValue) (b : Origin) (q : Range) → b ≡ O.Range q → leb v.filling q.filling ≡ lower_origin (by_value (pair_of v)) (origin_of b)
unfolding lower_origin
value-than-range v b q e = than-told (by_value (pair_of v)) b (O.Range q) (leb v.filling q.filling) e (then-below v.filling q.filling)

pub range-than-value : (q : Range) (b : Origin) (v : HeldValue) → b ≡ O.Value v → ltb q.filling v.filling ≡ lower_origin (by_range (range_of q)) (origin_of b)
unfolding lower_origin
range-than-value q b v e = than-told (by_range (range_of q)) b (O.Value v) (ltb q.filling v.filling) e (then-above q.filling v.filling)

pub told-than : (x : Reason.Origin) (a o : Origin) (t : Bool) → a ≡ o → t ≡ lower_origin (origin_of o) x → t ≡ lower_origin (origin_of a) x
told-than x a o t e f = f ∙ ap (λ (y : Origin). lower_origin (origin_of y) x) (sym e)

-- ---- test by test

module _ (low : Lowest) (o : Origin) (has : Bool) where
  pub lower-lacks : has ≡ false → low ≡ lower_of low o has
  unfolding lower_of
  lower-lacks e = rw e refl

  pub lower-first : has ≡ true → low.found ≡ false → record { found = true; origin = o } ≡ lower_of low o has
  unfolding lower_of
  lower-first e f = rw (e, f) refl

  pub lower-higher : has ≡ true → low.found ≡ true → lower_origin (origin_of o) (origin_of low.origin) ≡ false → low ≡ lower_of low o has
  unfolding lower_of
  lower-higher e f g = rw (e, f, g) refl

  pub lower-taken : has ≡ true → low.found ≡ true → lower_origin (origin_of o) (origin_of low.origin) ≡ true → record { found = true; origin = o } ≡ lower_of low o has
  unfolding lower_of
  lower-taken e f g = rw (e, f, g) refl

-- ---- turn by turn

-- what row r has, by the fillings of a design
module _ (D : Database) (r : ℕ) (d : Design) (filling : List Filling) (e : d.filling ≡ filling) (b : Bool) where
  pub value-has : (v : HeldValue) → b ≡ has D (column_of (get_or filling v.filling no_filling).column) (cell_of v.value) r →
      b ≡ has_origin (scheme_of d) D r (origin_of (O.Value v))
  unfolding scheme_of has_origin
  value-has v h = h ∙ ap (λ (fs : List Filling). has D (column_of (get_or fs v.filling no_filling).column) (cell_of v.value) r) (sym e)

  pub range-has : (q : Range) → b ≡ has_range D (column_of (get_or filling q.filling no_filling).column) (range_of q) r →
      b ≡ has_origin (scheme_of d) D r (origin_of (O.Range q))
  unfolding scheme_of has_origin
  range-has q h = h ∙ ap (λ (fs : List Filling). has_range D (column_of (get_or fs q.filling no_filling).column) (range_of q) r) (sym e)

module _ (S : Scheme) (D : Database) (r : ℕ) where
  pub below-start : (at : ℕ → Origin) (low : Lowest) → low ≡ lowest_below S D r at 0 low
  unfolding lowest_below
  below-start at low = refl

  pub below-turn : (at : ℕ → Origin) (n : ℕ) (start low next : Lowest) (o : Origin) (has : Bool) → low ≡ lowest_below S D r at n start → next ≡ lower_of low o has → o ≡ at n →
      has ≡ has_origin S D r (origin_of (at n)) → next ≡ lowest_below S D r at (n + 1) start
  unfolding lowest_below
  below-turn at n start low next o has e f g h =
      f ∙ (λ i. lower_of (e i) (g i) (h i)) ∙ ap (λ (m : ℕ). lowest_below S D r at m start) (sym (add-one n))

  pub below_end : (at : ℕ → Origin) (n m : ℕ) (start low : Lowest) → n ≤ m → m ≤ n → low ≡ lowest_below S D r at n start → low ≡ lowest_below S D r at m start
  below_end at n m start low a b e = let q : n ≡ m = omega arith in e ∙ ap (λ (x : ℕ). lowest_below S D r at x start) q

  pub desks-start : (ss : List DeskRanges) (low : Lowest) → low ≡ lowest_of_desks S D r ss 0 low
  unfolding lowest_of_desks
  desks-start ss low = refl

  pub desks-turn : (ss : List DeskRanges) (n : ℕ) (start low next : Lowest) → low ≡ lowest_of_desks S D r ss n start → next ≡ lowest_of_ranges S D r (get_or ss n no_ranges) low →
      next ≡ lowest_of_desks S D r ss (n + 1) start
  unfolding lowest_of_desks
  desks-turn ss n start low next e f =
      f ∙ ap (lowest_of_ranges S D r (get_or ss n no_ranges)) e ∙ ap (λ (m : ℕ). lowest_of_desks S D r ss m start) (sym (add-one n))

  pub desks-end : (ss : List DeskRanges) (n : ℕ) (start low : Lowest) → n ≤ 4 → 4 ≤ n → low ≡ lowest_of_desks S D r ss n start → low ≡ lowest_of_desks S D r ss 4 start
  desks-end ss n start low a b e = let q : n ≡ 4 = omega arith in e ∙ ap (λ (x : ℕ). lowest_of_desks S D r ss x start) q
