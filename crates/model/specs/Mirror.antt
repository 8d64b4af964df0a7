-- A cache over a slice, and the cache that the whole database would have. Assumes nothing.
use Rattle.std.specs.Prelude.{ℕ, ◌≡◌, Bool, true, false, List, [], ◌∷◌}
use Rattle.model.specs.Scheme.{Scheme}
use Rattle.model.specs.Database.{Database}
use Rattle.model.specs.Holding.{held_in}
use Rattle.model.specs.Runs.{Question, probe, evenness, smallest_knot, opener, reason, Operation, refer, drop, ask, query, name, refer_range, drop_range, marked, Cache}
use Rattle.model.specs.Effects.{cache_after}
use Rattle.model.specs.Slice.{in_full, Enough}

-- c, over the slice D, and b, over the database, hold the same and have the same rows cached
pub record Mirrors (at : ℕ → ℕ) (D : Database) (c b : Cache) : Type 0 where
  pub held : b.held ≡ c.held
  pub rows : (s : ℕ) → marked b.marks s ≡ in_full at D (marked c.marks) s

-- the slice is enough for what a cache holds and has cached
abbrev pub EnoughFor : Scheme → (ℕ → ℕ) → Database → Database → Cache → Type 0
EnoughFor S at D B c = Enough S at D B (held_in S c.held) (marked c.marks)

-- it is so after each operation of a run
unfoldable pub EnoughAlong : Scheme → (ℕ → ℕ) → Database → Database → Cache → List Operation → Type 0
EnoughAlong S at D B c [] = Unit {0}
EnoughAlong S at D B c (o ∷ os) = EnoughFor S at D B (cache_after S D c o) × EnoughAlong S at D B (cache_after S D c o) os

-- what can be answered from a slice: all but an opener, which is found from rows that aren't cached, and a reason, whose sentence numbers rows
unfoldable pub question_from_slice : Question → Bool
question_from_slice (probe k v) = true
question_from_slice evenness = true
question_from_slice smallest_knot = true
question_from_slice (opener k v) = false
question_from_slice (reason r room) = false

unfoldable pub from_slice : Operation → Bool
unfolding question_from_slice
from_slice (refer p) = true
from_slice (drop p) = true
from_slice (ask q) = question_from_slice q
from_slice (query q out) = true
from_slice (name d) = true
from_slice (refer_range r) = true
from_slice (drop_range r) = true
