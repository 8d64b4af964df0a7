-- The held record's places: a value's, and all of them when one goes. Assumes nothing.
use Rattle.std.specs.Prelude.{ℕ, ◌+◌, ◌-◌, ◌<◌, ◌≡◌, Option, MatchOption, cond, ltb}
use Rattle.finite.specs.Finite.{tab}
use Rattle.finite.specs.Sameness.{place_of}
use Rattle.model.specs.Holding.{Pair, mine, same_owned}
use Rattle.state.specs.declared.held.OwnedValue.{OwnedValue}
use Rattle.state.specs.declared.held.Held.{Held}
use Rattle.state.specs.Held.{held_at}
use Rattle.state.specs.Meaning.{holding_of, values_of}

-- the place of the named desk's pair among the values, none where the desk doesn't hold it
abbrev pub Placed : Held → Pair → Option ℕ → Type 0
Placed h p at =
    MatchOption at (h.count ≡ place_of same_owned (mine (holding_of h) p) (values_of h))
    (λ i. (i ≡ place_of same_owned (mine (holding_of h) p) (values_of h)) × (i < h.count))

-- what stands at place i once the value at place `gap` is gone: those behind it have moved up by one
abbrev pub kept_at : Held → ℕ → ℕ → OwnedValue
kept_at h gap i = held_at h (cond (ltb i gap) i (i + 1))

-- the record without the value at place `gap`
unfoldable pub without : Held → ℕ → Held
without h gap = record { desk = h.desk; count = h.count - 1; values = tab 64 (kept_at h gap); ranges = h.ranges }
