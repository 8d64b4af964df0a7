-- The lowest of what is held so far, one after the other: the values, then the ranges of each desk. Assumes nothing.
use Rattle.std.specs.Prelude.{ℕ, zero, suc, Bool, true, false, cond, ◌&&◌, ◌||◌, not, List, get_or}
use Rattle.model.specs.Scheme.{Scheme}
use Rattle.model.specs.Database.{Database}
use Rattle.model.specs.Reason as Model
use Rattle.model.specs.Reason.{by_value, by_range, has_origin, lower_origin}
use Rattle.state.specs.declared.held.DeskRanges.{DeskRanges}
use Rattle.state.specs.declared.held.Held.{Held}
use Rattle.state.specs.Held.{no_value, no_ranges, held_at, range_at}
use Rattle.state.specs.Meaning.{pair_of, range_of}
use Rattle.reason.specs.declared.lowest.Origin.{Origin}
use Rattle.reason.specs.declared.lowest.Origin.TheVariants as O
use Rattle.reason.specs.declared.lowest.Lowest.{Lowest}

-- what it is in the model
abbrev pub origin_of : Origin → Model.Origin
origin_of (O.Value v) = by_value (pair_of v)
origin_of (O.Range q) = by_range (range_of q)

abbrev pub none_found : Lowest
none_found = record { found = false; origin = O.Value no_value.pair }

-- o takes its place, if the row has o and o is the first or the lower
unfoldable pub lower_of : Lowest → Origin → Bool → Lowest
lower_of low o has = cond (has && (not low.found || lower_origin (origin_of o) (origin_of low.origin))) (record { found = true; origin = o }) low

module _ (S : Scheme) (D : Database) (r : ℕ) where
  -- the lowest so far, with the first n of these that row r has
  unfoldable pub lowest_below : (ℕ → Origin) → ℕ → Lowest → Lowest
  lowest_below at zero low = low
  lowest_below at (suc n) low = lower_of (lowest_below at n low) (at n) (has_origin S D r (origin_of (at n)))

  unfoldable pub lowest_of_values : Held → Lowest → Lowest
  lowest_of_values h low = lowest_below (λ i. O.Value (held_at h i).pair) h.count low

  unfoldable pub lowest_of_ranges : DeskRanges → Lowest → Lowest
  lowest_of_ranges s low = lowest_below (λ i. O.Range (range_at s i)) s.count low

  -- with the ranges of the first n desks
  unfoldable pub lowest_of_desks : List DeskRanges → ℕ → Lowest → Lowest
  lowest_of_desks ss zero low = low
  lowest_of_desks ss (suc n) low = lowest_of_ranges (get_or ss n no_ranges) (lowest_of_desks ss n low)
