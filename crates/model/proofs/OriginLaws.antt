-- What a chain of demands ends with: the order of what is held, and that the numbers of `origin_at` find all of it, pairs and ranges. Assumes nothing.
use Prim.Native.Nat.{ℕ, ◌+◌, ◌-◌, ◌≤◌, ◌<◌}
use native.Mathlib.Decide.{dec_lt}
use native.Mathlib.Omega.{arith}
use mathlib.Core.Path.{◌≡◌, refl, sym, ap, ap₂, ◌∙◌}
use mathlib.Core.Logic.{⊎_elim}
use mathlib.Core.Bool.{true, false, ◌||◌}
use borrow.Author.Tests.{lt-ltb, le-ltb}
use lib.Dec.{ltb}
use Rattle.finite.specs.Finite.{any, lowest_of}
use Rattle.finite.proofs.Bools.{bool-ext, clash, cond-true, cond-false, or_cases, or_left, or-second}
use Rattle.finite.proofs.Search.{any-true, any_found}
use Rattle.finite.proofs.Lowest.{Order, order-of, lowest-is}
use Rattle.finite.proofs.Order.{lower-self, lower-trans, lower-neither, last-trans, last-neither}
use Rattle.model.specs.Scheme.{Scheme}
use Rattle.model.specs.Database.{Database}
use Rattle.model.specs.Ranges.{Range, same_range, has_range}
use Rattle.model.specs.Holding.{Holding, held_count, held_pair, all_ranges, range_count, held_range, some_holds_range, wanted}
use Rattle.model.specs.Reason.{Origin, by_value, by_range, origin_count, origin_at, is_held, has_origin, lower_origin, lowest_held}
use Rattle.model.proofs.CellLaws.{lower-cells, lower-cell-neither}
use Rattle.model.proofs.DatabaseLaws.{has-Has, has-full}
use Rattle.model.proofs.RangeLaws.{same-range, same-range-self}
use Rattle.model.proofs.RangesFit.{some-any}
use Rattle.model.proofs.HoldingLaws.{held-at, at_held, wanted-some}

-- ---- the order of what is held

origin-self : (a : Origin) → lower_origin a a ≡ false
unfolding lower_origin
origin-self (by_value a) = lower-self a.filling _ (lower-cells.self a.value)
origin-self (by_range a) = lower-self a.filling _ (lower-self a.low _ (le-ltb a.high a.high (omega arith)))

origin-trans : (a b c : Origin) → lower_origin a b ≡ true → lower_origin b c ≡ true → lower_origin a c ≡ true
unfolding lower_origin
origin-trans (by_value a) (by_value b) (by_value c) = lower-trans a.filling b.filling c.filling _ _ _ (lower-cells.trans a.value b.value c.value)
origin-trans (by_value a) (by_value b) (by_range c) = lower-trans a.filling b.filling c.filling _ _ _ (λ x y. refl)
origin-trans (by_value a) (by_range b) (by_value c) = lower-trans a.filling b.filling c.filling _ _ _ (λ x y. clash y refl)
origin-trans (by_value a) (by_range b) (by_range c) = lower-trans a.filling b.filling c.filling _ _ _ (λ x y. refl)
origin-trans (by_range a) (by_value b) (by_value c) = lower-trans a.filling b.filling c.filling _ _ _ (λ x y. clash x refl)
origin-trans (by_range a) (by_value b) (by_range c) = lower-trans a.filling b.filling c.filling _ _ _ (λ x y. clash x refl)
origin-trans (by_range a) (by_range b) (by_value c) = lower-trans a.filling b.filling c.filling _ _ _ (λ x y. y)
origin-trans (by_range a) (by_range b) (by_range c) =
    lower-trans a.filling b.filling c.filling _ _ _
    (lower-trans a.low b.low c.low _ _ _ (last-trans a.high b.high c.high))

pub lower-origins : Order lower_origin
lower-origins = record { self = origin-self; trans = origin-trans }

-- where neither of two is the lower they are the same
pub lower-origin-neither : (a b : Origin) → lower_origin a b ≡ false → lower_origin b a ≡ false → a ≡ b
unfolding lower_origin
lower-origin-neither (by_value a) (by_value b) s t =
    let q = lower-neither a.filling b.filling _ _ s t in
    let v = lower-cell-neither a.value b.value q.1 q.2 in
    λ i. by_value (record { filling = q.0 i; value = v i })
lower-origin-neither (by_value a) (by_range b) s t = clash refl (lower-neither a.filling b.filling _ _ s t).1
lower-origin-neither (by_range a) (by_value b) s t = clash refl (lower-neither a.filling b.filling _ _ s t).2
lower-origin-neither (by_range a) (by_range b) s t =
    let q = lower-neither a.filling b.filling _ _ s t in
    let l = lower-neither a.low b.low _ _ q.1 q.2 in
    let h = last-neither a.high b.high l.1 l.2 in
    λ i. by_range (record { filling = q.0 i; low = l.0 i; high = h i })

-- ---- what is held, one by one

module _ (h : Holding) where
  pair-at : (i : ℕ) → i < held_count h → origin_at h i ≡ by_value (held_pair h i)
  unfolding origin_at
  pair-at i l = cond-true (ltb i (held_count h)) _ _ (lt-ltb i (held_count h) l)

  range-past : (i : ℕ) → held_count h ≤ i → origin_at h i ≡ by_range (held_range h (i - held_count h))
  unfolding origin_at
  range-past i l = cond-false (ltb i (held_count h)) _ _ (le-ltb i (held_count h) l)

  range-at : (j : ℕ) → origin_at h (held_count h + j) ≡ by_range (held_range h j)
  range-at j =
      range-past (held_count h + j) (omega arith) ∙ ap (λ (n : ℕ). by_range (held_range h n)) (let e : held_count h + j - held_count h ≡ j = omega arith in e)

  -- a range that some desk holds stands somewhere
  held-range-at : (q : Range) → some_holds_range h q ≡ true → (j : ℕ) × (j < range_count h) × (held_range h j ≡ q)
  unfolding some_holds_range
  held-range-at q e = let f = any_found (range_count h) (λ i. same_range (held_range h i) q) e in (f.0, f.1, same-range (held_range h f.0) q f.2)

  -- so does whatever is held
  pub origin-at : (o : Origin) → is_held h o ≡ true → (i : ℕ) × (i < origin_count h) × (origin_at h i ≡ o)
  unfolding is_held
  origin-at (by_value p) e = let f = held-at h p e in (f.0, omega (arith, f.1), pair-at f.0 f.1 ∙ ap by_value f.2)
  origin-at (by_range q) e = let f = held-range-at q e in (held_count h + f.0, omega (arith, f.1), range-at f.0 ∙ ap by_range f.2)

  module _ (S : Scheme) (D : Database) (r : ℕ) where
    -- and what stands somewhere is held, where a row has it
    pub at-origin : (i : ℕ) → i < origin_count h → has_origin S D r (origin_at h i) ≡ true → is_held h (origin_at h i) ≡ true
    unfolding is_held has_origin some_holds_range
    at-origin i l e = go (dec_lt i (held_count h))
      where
        go : Dec (i < held_count h) → is_held h (origin_at h i) ≡ true
        go (yes m) =
            ap (is_held h) (pair-at i m) ∙
            at_held h i m (has-full (has-Has D (S.filling (held_pair h i).filling).column (held_pair h i).value r (sym (ap (has_origin S D r) (pair-at i m)) ∙ e)))
        go (no m) =
            let j = i - held_count h in
            ap (is_held h) (range-past i (omega arith)) ∙ any-true (range_count h) (λ n. same_range (held_range h n) (held_range h j)) j (omega arith) (same-range-self (held_range h j))

    -- the rows that are wanted are those that have something held
    pub wanted-origin : wanted S D h r ≡ any (origin_count h) (λ i. has_origin S D r (origin_at h i))
    unfolding has_origin
    wanted-origin =
        ap₂ ◌||◌ (wanted-some S D h r) (some-any (λ q. has_range D (S.filling q.filling).column q r) (all_ranges h.ranges)) ∙
        bool-ext (any (held_count h) (λ i. has_origin S D r (by_value (held_pair h i))) || any (range_count h) (λ i. has_origin S D r (by_range (held_range h i))))
        (any (origin_count h) (λ i. has_origin S D r (origin_at h i))) there back
      where
        there : any (held_count h) (λ i. has_origin S D r (by_value (held_pair h i))) || any (range_count h) (λ i. has_origin S D r (by_range (held_range h i))) ≡ true →
            any (origin_count h) (λ i. has_origin S D r (origin_at h i)) ≡ true
        there e = ⊎_elim
            (λ x. let f = any_found (held_count h) (λ i. has_origin S D r (by_value (held_pair h i))) x in
            any-true (origin_count h) _ f.0 (omega (arith, f.1)) (ap (has_origin S D r) (pair-at f.0 f.1) ∙ f.2))
            (λ x. let f = any_found (range_count h) (λ i. has_origin S D r (by_range (held_range h i))) x in
            any-true (origin_count h) _ (held_count h + f.0) (omega (arith, f.1)) (ap (has_origin S D r) (range-at f.0) ∙ f.2))
            (or_cases (any (held_count h) (λ i. has_origin S D r (by_value (held_pair h i)))) _ e)

        back : any (origin_count h) (λ i. has_origin S D r (origin_at h i)) ≡ true →
            any (held_count h) (λ i. has_origin S D r (by_value (held_pair h i))) || any (range_count h) (λ i. has_origin S D r (by_range (held_range h i))) ≡ true
        back e = let f = any_found (origin_count h) (λ i. has_origin S D r (origin_at h i)) e in go f.0 f.1 f.2 (dec_lt f.0 (held_count h))
          where
            go : (i : ℕ) → i < origin_count h → has_origin S D r (origin_at h i) ≡ true → Dec (i < held_count h) →
                any (held_count h) (λ i. has_origin S D r (by_value (held_pair h i))) || any (range_count h) (λ i. has_origin S D r (by_range (held_range h i))) ≡ true
            go i l x (yes m) =
                sym (or_left (any (held_count h) (λ i. has_origin S D r (by_value (held_pair h i)))) _
                (any-true (held_count h) _ i m (sym (ap (has_origin S D r) (pair-at i m)) ∙ x)))
            go i l x (no m) =
                or-second (any (held_count h) (λ i. has_origin S D r (by_value (held_pair h i)))) _
                (any-true (range_count h) _ (i - held_count h) (omega arith) (sym (ap (has_origin S D r) (range-past i (omega arith))) ∙ x))

    -- what is held, is had by the row, and no other such is lower than, is the lowest
    pub lowest-unique : (o : Origin) → is_held h o ≡ true → has_origin S D r o ≡ true →
        ((q : Origin) → is_held h q ≡ true → has_origin S D r q ≡ true → lower_origin q o ≡ false) → o ≡ lowest_held S D h r
    unfolding lowest_held
    lowest-unique o a b l =
        let f = origin-at o a in
        let w = lowest-is (λ i. has_origin S D r (origin_at h i)) (λ i j. lower_origin (origin_at h i) (origin_at h j)) (order-of lower_origin (origin_at h) lower-origins)
        (origin_count h) (any-true (origin_count h) (λ i. has_origin S D r (origin_at h i)) f.0 f.1 (ap (has_origin S D r) f.2 ∙ b)) in
        let x = origin_at h (lowest_of (origin_count h) (λ i. has_origin S D r (origin_at h i)) (λ i j. lower_origin (origin_at h i) (origin_at h j))) in
        lower-origin-neither o x
        (sym (ap (λ (q : Origin). lower_origin q x) f.2) ∙ w.least f.0 f.1 (ap (has_origin S D r) f.2 ∙ b))
        (l x (at-origin _ w.bound w.passes) w.passes)
