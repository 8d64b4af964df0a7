-- Marking rows beside others. Assumes nothing.
use Rattle.std.specs.Prelude.{ℕ, ◌<◌, ◌≡◌, Bool, false, ◌||◌, List, length, get_or}

-- the rows that pass the test are marked beside those that were
pub record Marked (p : ℕ → Bool) (seed seed' : List Bool) : Type 0 where
  pub long : length seed' ≡ length seed
  pub at : (t : ℕ) → t < 512 → get_or seed' t false ≡ get_or seed t false || p t
