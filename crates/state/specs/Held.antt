-- The held record's places, and the record that holds nothing. Assumes nothing.
use Rattle.std.specs.Prelude.{ℕ, ◌≤◌, ◌<◌, ◌≡◌, [], get_or}
use Rattle.finite.specs.Finite.{tab}
use Rattle.state.specs.declared.cell.Cell.{Cell}
use Rattle.state.specs.declared.held.OwnedValue.{OwnedValue}
use Rattle.state.specs.declared.held.Range.{Range}
use Rattle.state.specs.declared.held.DeskRanges.{DeskRanges}
use Rattle.state.specs.declared.held.Held.{Held}

-- what stands in an unused place
abbrev pub no_cell : Cell
no_cell = record { number = 0; issue = 0 }

abbrev pub no_value : OwnedValue
no_value = record { desk = 0; pair = record { filling = 0; value = no_cell } }

abbrev pub no_range : Range
no_range = record { filling = 0; low = 0; high = 0 }

-- what is read past the last desk, and the ranges of a desk that holds none
abbrev pub no_ranges : DeskRanges
no_ranges = record { count = 0; list = [] }

abbrev pub empty_ranges : DeskRanges
empty_ranges = record { count = 0; list = tab 8 (λ _. no_range) }

abbrev pub held_at : Held → ℕ → OwnedValue
held_at h i = get_or h.values i no_value

-- place i of a desk's ranges, and the ranges of desk e
abbrev pub range_at : DeskRanges → ℕ → Range
range_at s i = get_or s.list i no_range

abbrev pub ranges_at : Held → ℕ → DeskRanges
ranges_at h e = get_or h.ranges e no_ranges

-- with desk 0 named
unfoldable pub none_held : Held
none_held = record { desk = 0; count = 0; values = tab 64 (λ _. no_value); ranges = tab 4 (λ _. empty_ranges) }

-- what inner functions ask of the record: its counts and its fillings' numbers stay inside the arrays. Every lawful record has this.
pub record Bounded (h : Held) : Type 0 where
  pub count : h.count ≤ 64
  pub filling : (i : ℕ) → (held_at h i).pair.filling < 8
  pub ranges : (e : ℕ) → (ranges_at h e).count ≤ 8
  pub range : (e i : ℕ) → (range_at (ranges_at h e) i).filling < 8

-- what functions that change it ask: at most 64 values and at most 8 ranges for each desk, unused places 0. Every lawful record has this.
pub record TidyRanges (s : DeskRanges) : Type 0 where
  pub few : s.count ≤ 8
  pub unused : (i : ℕ) → s.count ≤ i → i < 8 → range_at s i ≡ no_range

pub record Tidy (h : Held) : Type 0 where
  pub few : h.count ≤ 64
  pub unused : (i : ℕ) → h.count ≤ i → i < 64 → held_at h i ≡ no_value
  pub ranges : (e : ℕ) → e < 4 → TidyRanges (ranges_at h e)
