-- The words of what is held while the values behind a gap move up by one place: those before place i have, those from there on have not, and nothing else has changed.
-- Assumes nothing.
use Prim.Native.Nat.{ℕ, ◌+◌, ◌-◌, ◌≤◌, ◌<◌}
use native.Mathlib.Omega.{arith}
use mathlib.Core.Path.{◌≡◌, refl, sym, ap, subst, ◌∙◌}
use mathlib.Core.Bool.{Bool, true, false, cond}
use mathlib.Core.List.{List, [], ◌∷◌}
use lib.ListN.{length, set}
use Rattle.std.specs.Prelude.{Option, None, Some, MatchOption}
use Rattle.finite.specs.Finite.{any, tab}
use Rattle.finite.specs.Sameness.{place_of, remove}
use Rattle.finite.proofs.Sameness.{place_found, place_none}
use Rattle.finite.proofs.Search.{any_none, any-refuted}
use Rattle.finite.proofs.Tables.{Upto}
use Rattle.model.specs.Ranges as Model
use Rattle.model.specs.Holding.{same_owned, mine, with_pair}
use Rattle.model.proofs.HoldingLaws.{no_owned}
use Rattle.state.specs.declared.held.HeldValue.{HeldValue}
use Rattle.state.specs.declared.held.OwnedValue.{OwnedValue}
use Rattle.state.specs.declared.held.Held.{Held}
use Rattle.state.specs.declared.held.DeskRanges.{DeskRanges}
use Rattle.state.specs.Held.{no_value, held_at, Tidy}
use Rattle.state.specs.HeldWords.{words_held, Whole, Holds, with_count, with_value_at}
use Rattle.state.specs.Meaning.{pair_of, owned_of, values_of, list_of, list_back, holding_of, held_of}
use Rattle.state.proofs.HeldWords.{words-sized, holds-whole, holds_same}
use Rattle.lawful.proofs.RangeTests.{length-list}
use Rattle.cache.specs.Places.{kept_at, Placed, without}
use Rattle.cache.proofs.HeldRecord.{append-is, shift-start, shift-next, shift-end}

-- the words ws hold what h held, but for its values
pub record Shifting (h : Held) (gap : ℕ) (ws : List ℕ) (i : ℕ) : Type 0 where
  pub whole : Whole ws
  pub low : gap ≤ i
  pub most : i ≤ 63
  pub desk : (words_held ws).desk ≡ h.desk
  pub count : (words_held ws).count ≡ h.count
  pub ranges : (words_held ws).ranges ≡ h.ranges
  pub values : Upto no_value 64 i (kept_at h gap) (held_at h) (words_held ws).values

pub shifting-start : (ws : List ℕ) (gap : ℕ) → Whole ws → gap < 64 → Shifting (words_held ws) gap ws gap
shifting-start ws gap w l =
    record {
      whole = w;
      low = omega arith;
      most = omega arith;
      desk = refl;
      count = refl;
      ranges = refl;
      values = shift-start (words_held ws) gap (words-sized ws).values;
    }

-- a store of a value leaves the rest
module _ (ws ws' : List ℕ) (i : ℕ) (v : OwnedValue) (o : Holds ws' (with_value_at (words_held ws) i v)) where
  desk-kept : (words_held ws').desk ≡ (words_held ws).desk
  desk-kept = ap (λ (g : Held). g.desk) o.means

  count_kept : (words_held ws').count ≡ (words_held ws).count
  count_kept = ap (λ (g : Held). g.count) o.means

  ranges-kept : (words_held ws').ranges ≡ (words_held ws).ranges
  ranges-kept = ap (λ (g : Held). g.ranges) o.means

  values-set : (words_held ws').values ≡ set (words_held ws).values i v
  values-set = ap (λ (g : Held). g.values) o.means

closed-words : (h g : Held) (gap n : ℕ) → g.desk ≡ h.desk → n ≡ h.count - 1 → g.values ≡ tab 64 (kept_at h gap) → g.ranges ≡ h.ranges →
    with_count g n ≡ without h gap
unfolding without
closed-words h g gap n d e v r = λ x. record { desk = d x; count = e x; values = v x; ranges = r x }

module _ (h : Held) (gap : ℕ) (ws : List ℕ) (i : ℕ) (s : Shifting h gap ws i) where
  pub shifting-more : (ws' : List ℕ) (v : OwnedValue) → i < 63 → v ≡ held_at (words_held ws) (i + 1) → Holds ws' (with_value_at (words_held ws) i v) →
      Shifting h gap ws' (i + 1)
  shifting-more ws' v l e o =
      record {
        whole = holds-whole ws' (with_value_at (words_held ws) i v) o;
        low = omega (arith, s.low);
        most = omega arith;
        desk = desk-kept ws ws' i v o ∙ s.desk;
        count = count_kept ws ws' i v o ∙ s.count;
        ranges = ranges-kept ws ws' i v o ∙ s.ranges;
        values =
            subst (λ (xs : List OwnedValue). Upto no_value 64 (i + 1) (kept_at h gap) (held_at h) xs) (sym (values-set ws ws' i v o))
            (shift-next h gap i (words_held ws).values s.values s.low (omega arith) v e);
      }

  -- the last place is emptied, and the count goes down by one
  pub shifting-end : length h.values ≡ 64 → 63 ≤ i → (ws' ws'' : List ℕ) (n : ℕ) → n ≡ h.count - 1 → Holds ws' (with_value_at (words_held ws) 63 no_value) →
      Holds ws'' (with_count (words_held ws') n) → Holds ws'' (without h gap)
  shifting-end l m ws' ws'' n e o p = holds_same ws'' (with_count (words_held ws') n) p (without h gap)
      (closed-words h (words_held ws') gap n (desk-kept ws ws' 63 no_value o ∙ s.desk) e at (ranges-kept ws ws' 63 no_value o ∙ s.ranges))
    where
      at : (words_held ws').values ≡ tab 64 (kept_at h gap)
      at = values-set ws ws' 63 no_value o ∙ shift-end h gap i (words_held ws).values s.values s.low l 63 (omega (arith, s.most), omega (arith, s.most))

-- a value at the end: the store of it, and of the count
pub append-words : (ws ws' ws'' : List ℕ) (p : HeldValue) (n d : ℕ) → Tidy (words_held ws) → (words_held ws).count < 64 → n ≡ (words_held ws).count → d ≡ (words_held ws).desk →
    Holds ws' (with_value_at (words_held ws) n (record { desk = d; pair = p })) → Holds ws'' (with_count (words_held ws') (n + 1)) →
    Holds ws'' (held_of (with_pair (holding_of (words_held ws)) (pair_of p)))
append-words ws ws' ws'' p n d t room a b o q =
    holds_same ws'' (with_count (words_held ws') (n + 1)) q (held_of (with_pair (holding_of (words_held ws)) (pair_of p)))
    (ap (λ (k : Held). with_count k (n + 1)) o.means ∙
    (λ x. record {
      desk = (words_held ws).desk;
      count = a x + 1;
      values = set (words_held ws).values (a x) (record { desk = b x; pair = p });
      ranges = (words_held ws).ranges;
    }) ∙
    append-is (words_held ws) t room (words-sized ws) p)

-- ---- the place of a pair of the named desk, d

module _ (h : Held) (v : HeldValue) (d : ℕ) (e : d ≡ h.desk) (i : ℕ)
    (none : any i (λ j. same_owned (owned_of (held_at h j)) (owned_of (record { desk = d; pair = v }))) ≡ false) where
  none-mine : any i (λ j. same_owned (owned_of (held_at h j)) (mine (holding_of h) (pair_of v))) ≡ false
  none-mine = subst (λ (m : ℕ). any i (λ j. same_owned (owned_of (held_at h j)) (record { desk = m; pair = pair_of v })) ≡ false) e none

  pub place_at : i < h.count → same_owned (owned_of (held_at h i)) (owned_of (record { desk = d; pair = v })) ≡ true →
      i ≡ place_of same_owned (mine (holding_of h) (pair_of v)) (values_of h)
  unfolding values_of
  place_at l b =
      place_found same_owned no_owned _ _ _ _ l (any_none _ _ none-mine)
      (subst (λ (m : ℕ). same_owned (owned_of (held_at h i)) (record { desk = m; pair = pair_of v }) ≡ true) e b)

  pub place_end : (n : ℕ) → n ≡ h.count → n ≤ i → n ≡ place_of same_owned (mine (holding_of h) (pair_of v)) (values_of h)
  unfolding values_of
  place_end n p g = p ∙ place_none same_owned no_owned _ _ _ (λ j l. any_none _ _ none-mine j (omega arith))

-- value i is desk d's v
abbrev pub is_at : Held → HeldValue → ℕ → ℕ → Bool
is_at h v d i = same_owned (owned_of (held_at h i)) (owned_of (record { desk = d; pair = v }))

-- what a search among the n values finds
pub placed_first : (h : Held) (v : HeldValue) (d : ℕ) → d ≡ h.desk → (n : ℕ) → n ≡ h.count → (r : Option ℕ) →
    MatchOption r ((k : ℕ) → 0 ≤ k → k < n → is_at h v d k ≡ false)
    (λ i. (0 ≤ i) × (i < n) × (is_at h v d i ≡ true) × ((k : ℕ) → 0 ≤ k → k < i → is_at h v d k ≡ false)) →
    Placed h (pair_of v) r
placed_first h v d e n f None w = sym f ∙ place_end h v d e n (any-refuted n (is_at h v d) (λ k l. w k (omega arith) l)) n f (omega arith)
placed_first h v d e n f (Some i) w =
    (place_at h v d e i (any-refuted i (is_at h v d) (λ k l. w.3 k (omega arith) l)) (omega (arith, w.1, f)) w.2, omega (arith, w.1, f))

-- ---- a desk's ranges without one are no more than before

remove-few : (r : Model.Range) (rs : List Model.Range) → length (remove Model.same_range r rs) ≤ length rs
unfolding remove
remove-few r [] = omega arith
remove-few r (q ∷ qs) = go (Model.same_range q r) (remove-few r qs)
  where
    go : (b : Bool) → length (remove Model.same_range r qs) ≤ length qs → length (cond b qs (q ∷ remove Model.same_range r qs)) ≤ length (q ∷ qs)
    go true h = omega arith
    go false h = omega arith

pub left-few : (own t : DeskRanges) (r : Model.Range) → own.count ≤ 8 → t ≡ list_back (remove Model.same_range r (list_of own)) → t.count ≤ 8
unfolding list_back
left-few own t r l e = omega (arith, ap (λ (u : DeskRanges). u.count) e, remove-few r (list_of own), length-list own)
