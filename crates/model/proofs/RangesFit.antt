-- Ranges of a desk that fit a scheme: at most 8, each of an existing filling, not empty and wholly of candidates, and the list rises and has gaps (02, Req 10). They
-- still fit when a range is joined to them and when one goes. Assumes nothing.
use Prim.Native.Nat.{ℕ, zero, suc, ◌≤◌, ◌<◌}
use native.Mathlib.Nat.{le_of_suc-le-suc}
use native.Mathlib.Omega.{arith}
use mathlib.Core.Path.{◌≡◌, refl, sym, ap, subst, ◌∙◌}
use mathlib.Core.Logic.{◌⊎◌, inl, inr, ⊎_elim}
use mathlib.Core.Bool.{Bool, true, false, not, cond, ◌&&◌, ◌||◌, and-eq-true_iff}
use mathlib.Core.List.{List, [], ◌∷◌, ◌++◌}
use borrow.Author.Tests.{leb-true, not-true}
use lib.Dec.{eqb, leb}
use lib.ListN.{length, get_or}
use Rattle.finite.specs.Finite.{any}
use Rattle.finite.specs.Sameness.{listed, remove}
use Rattle.finite.proofs.Bools.{both, clash, or_cases, or_left, same_number, or-second}
use Rattle.finite.proofs.Search.{any-front, any-start}
use Rattle.model.specs.Cell.{Cell}
use Rattle.model.specs.Scheme.{Scheme}
use Rattle.model.specs.Ranges.{Range, same_range, in_range, is_range, only_candidates, some_range, joined, contains}
use Rattle.model.specs.Holding.{desks, most_ranges, no_range, ranges_of, with_list, all_ranges, Holding, own_ranges, covers_range, has_range_room, holds_range, with_range, without_range}
use Rattle.model.specs.Runs.{range_taken}
use Rattle.model.proofs.RangeLaws.{in-says, says-in, has, Before, Full, Rising, none, one, more, Every, every_of, joined-holds, joined-rising, joined-every, same-range, remove-rising, remove-every, removed-holds, RangeFits, range-fits, hull-fits}
use Rattle.model.proofs.RangesHeld.{list-own, list-other, list_count}

abbrev pub range_at : List Range → ℕ → Range
range_at rs i = get_or rs i no_range

-- ---- range by range

pub every-at : {P : Range → Type 0} (rs : List Range) → Every P rs → (i : ℕ) → i < length rs → P (range_at rs i)
every-at [] none i l = absurd (omega arith)
every-at (r ∷ rs) (more p a) zero l = p
every-at (r ∷ rs) (more p a) (suc i) l = every-at rs a i (le_of_suc-le-suc l)

pub every-if : {P : Range → Type 0} (rs : List Range) → ((i : ℕ) → i < length rs → P (range_at rs i)) → Every P rs
every-if [] h = none
every-if (r ∷ rs) h = more (h 0 (omega arith)) (every-if rs (λ i l. h (suc i) (omega arith)))

pub rising-at : (rs : List Range) → Rising rs → (i : ℕ) → suc i < length rs → Before (range_at rs i) (range_at rs (suc i))
rising-at [] none i l = absurd (omega arith)
rising-at (r ∷ []) one i l = absurd (omega arith)
rising-at (r ∷ q ∷ qs) (more b c) zero l = b
rising-at (r ∷ q ∷ qs) (more b c) (suc i) l = rising-at (q ∷ qs) c i (le_of_suc-le-suc l)

pub rising-if : (rs : List Range) → ((i : ℕ) → suc i < length rs → Before (range_at rs i) (range_at rs (suc i))) → Rising rs
rising-if [] h = none
rising-if (r ∷ []) h = one
rising-if (r ∷ q ∷ qs) h = more (h 0 (omega arith)) (rising-if (q ∷ qs) (λ i l. h (suc i) (omega arith)))

-- a range that passes a test, among ranges of which something holds
pub some-found : {P : Range → Type 0} (p : Range → Bool) (rs : List Range) → Every P rs → some_range p rs ≡ true → (r : Range) × P r × (p r ≡ true)
unfolding some_range
some-found p [] none e = clash e refl
some-found p (r ∷ rs) (more h a) e = ⊎_elim (λ x. (r, h, x)) (λ x. some-found p rs a x) (or_cases (p r) (some_range p rs) e)

-- the same of their numbers
pub some-any : (p : Range → Bool) (rs : List Range) → some_range p rs ≡ any (length rs) (λ i. p (range_at rs i))
unfolding some_range
some-any p [] = sym (any-start _)
some-any p (r ∷ rs) = ap (λ (b : Bool). p r || b) (some-any p rs) ∙ sym (any-front (length rs) (λ i. p (range_at (r ∷ rs) i)))

every_append : {P : Range → Type 0} (xs ys : List Range) → Every P xs → Every P ys → Every P (xs ++ ys)
every_append [] ys none b = b
every_append (x ∷ xs) ys (more p a) b = more p (every_append xs ys a b)

-- what holds of every range of every list
pub all-every : {P : Range → Type 0} (rss : List (List Range)) → ((d : ℕ) → d < length rss → Every P (ranges_of rss d)) → Every P (all_ranges rss)
unfolding all_ranges
all-every [] h = none
all-every (rs ∷ rss) h = every_append rs (all_ranges rss) (h 0 (omega arith)) (all-every rss (λ d l. h (suc d) (omega arith)))

-- ---- what fits

pub record RangesFit (S : Scheme) (rs : List Range) : Type 0 where
  pub few : length rs ≤ most_ranges
  pub each : Every (RangeFits S) rs
  pub rising : Rising rs

-- a list for each desk
pub record ListsFit (S : Scheme) (rss : List (List Range)) : Type 0 where
  pub count : length rss ≡ desks
  pub lists : (d : ℕ) → d < desks → RangesFit S (ranges_of rss d)

pub all_fit : {S : Scheme} {rss : List (List Range)} → ListsFit S rss → Every (RangeFits S) (all_ranges rss)
all_fit {S} {rss} f = all-every rss (λ d l. (f.lists d (omega (arith, f.count))).each)

full-of : {S : Scheme} (rs : List Range) → Every (RangeFits S) rs → Every Full rs
full-of rs a = every_of (λ r f. f.full) rs a

-- the list with a range joined to it, and the list without one
join-fits : (S : Scheme) (rs : List Range) (r : Range) → RangesFit S rs → RangeFits S r → length (joined r rs) ≤ most_ranges → RangesFit S (joined r rs)
join-fits S rs r f g l =
    record { few = l; each = joined-every (hull-fits S) rs r g f.each; rising = joined-rising rs r g.full (full-of rs f.each) f.rising }

remove-shorter : (rs : List Range) (r : Range) → length (remove same_range r rs) ≤ length rs
unfolding remove
remove-shorter [] r = omega arith
remove-shorter (q ∷ qs) r = go (same_range q r) (remove-shorter qs r)
  where
    go : (b : Bool) → length (remove same_range r qs) ≤ length qs → length (cond b qs (q ∷ remove same_range r qs)) ≤ suc (length qs)
    go true h = omega arith
    go false h = omega arith

remove-fits : (S : Scheme) (rs : List Range) (r : Range) → RangesFit S rs → RangesFit S (remove same_range r rs)
remove-fits S rs r f =
    record {
      few = omega (arith, remove-shorter rs r, f.few);
      each = remove-every rs r f.each;
      rising = remove-rising rs r (full-of rs f.each) f.rising;
    }

-- one desk's list is another
other_fits : (S : Scheme) (rss : List (List Range)) (d : ℕ) (rs : List Range) → d < desks → ListsFit S rss → RangesFit S rs → ListsFit S (with_list rss d rs)
other_fits S rss d rs l f g = record { count = list_count rss d rs (omega (arith, f.count)) ∙ f.count; lists = λ e k. go e k (same_number d e) }
  where
    go : (e : ℕ) → e < desks → (d ≡ e) ⊎ (d ≡ e → ⊥) → RangesFit S (ranges_of (with_list rss d rs) e)
    go e k (inl q) = subst (λ (n : ℕ). RangesFit S (ranges_of (with_list rss d rs) n)) q (subst (RangesFit S) (sym (list-own rss d rs)) g)
    go e k (inr n) = subst (RangesFit S) (sym (list-other rss d e rs n)) (f.lists e k)

-- ---- what a load of a range takes, and a drop

pub record RangeTaken (S : Scheme) (h : Holding) (r : Range) : Type 0 where
  pub fits : RangeFits S r
  pub new : covers_range h r ≡ false
  pub room : length (joined r (own_ranges h)) ≤ most_ranges

pub range-taken-says : (S : Scheme) (h : Holding) (r : Range) → range_taken S h r ≡ true → RangeTaken S h r
unfolding range_taken
range-taken-says S h r e =
    let a = (and-eq-true_iff (is_range S r) _).0 e in
    let b = (and-eq-true_iff (only_candidates S r) _).0 a.1 in
    let c = (and-eq-true_iff (not (covers_range h r)) (has_range_room h r)).0 b.1 in
    record { fits = range-fits S r a.0 b.0; new = not-true _ c.0; room = leb-true _ _ c.1 }

module _ (S : Scheme) (h : Holding) (named : h.desk < desks) (f : ListsFit S h.ranges) (r : Range) where
  pub lists-more : RangeTaken S h r → ListsFit S (with_list h.ranges h.desk (joined r (own_ranges h)))
  lists-more t = other_fits S h.ranges h.desk _ named f (join-fits S (own_ranges h) r (f.lists h.desk named) t.fits t.room)

  pub lists-fewer : ListsFit S (with_list h.ranges h.desk (remove same_range r (own_ranges h)))
  lists-fewer = other_fits S h.ranges h.desk _ named f (remove-fits S (own_ranges h) r (f.lists h.desk named))

  -- a range that the desk holds fits
  pub held-range-fits : holds_range h r ≡ true → RangeFits S r
  unfolding listed
  held-range-fits e = go (own_ranges h) (f.lists h.desk named).each e
    where
      go : (rs : List Range) → Every (RangeFits S) rs → listed same_range r rs ≡ true → RangeFits S r
      go [] none x = clash x refl
      go (q ∷ qs) (more p a) x = ⊎_elim (λ y. subst (RangeFits S) (same-range q r y) p) (λ y. go qs a y) (or_cases (same_range q r) (listed same_range r qs) x)

  -- THEOREM: what a drop takes from the desk's ranges are exactly the values of the range, which it holds as a whole
  pub drop-takes : holds_range h r ≡ true → (n : ℕ) (v : Cell) →
      some_range (has n v) (own_ranges (without_range h r)) ≡ some_range (has n v) (own_ranges h) && not (has n v r)
  drop-takes e n v =
      ap (some_range (has n v)) (list-own h.ranges h.desk _) ∙
      removed-holds (own_ranges h) r (full-of (own_ranges h) (f.lists h.desk named).each) (f.lists h.desk named).rising e n v

-- THEOREM: what a load adds to them are exactly the values of the range
pub load-adds : (h : Holding) (r : Range) (n : ℕ) (v : Cell) →
    some_range (has n v) (own_ranges (with_range h r)) ≡ has n v r || some_range (has n v) (own_ranges h)
load-adds h r n v = ap (some_range (has n v)) (list-own h.ranges h.desk _) ∙ joined-holds (own_ranges h) r n v

-- THEOREM: every value of a range that lies inside one of the desk's is held by the desk already
pub covered-held : (h : Holding) (r : Range) → covers_range h r ≡ true → (v : Cell) → in_range r v ≡ true → some_range (has r.filling v) (own_ranges h) ≡ true
unfolding listed some_range contains
covered-held h r e v i = go (own_ranges h) e
  where
    go : (rs : List Range) → listed contains r rs ≡ true → some_range (has r.filling v) rs ≡ true
    go [] x = clash x refl
    go (q ∷ qs) x = ⊎_elim
        (λ y. let a = (and-eq-true_iff (eqb q.filling r.filling) _).0 y in
        let b = (and-eq-true_iff (leb q.low r.low) (leb r.high q.high)).0 a.1 in
        let w = in-says r v i in
        let l = leb-true q.low r.low b.0 in
        let g = leb-true r.high q.high b.1 in
        sym (or_left (has r.filling v q) (some_range (has r.filling v) qs)
        (both a.0 (says-in q v (record { full = w.full; issue = w.issue; low = omega (arith, w.low); high = omega (arith, w.high) })))))
        (λ y. or-second (has r.filling v q) (some_range (has r.filling v) qs) (go qs y))
        (or_cases (contains q r) (listed contains r qs) x)
