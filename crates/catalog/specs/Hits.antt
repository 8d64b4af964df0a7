-- Where a walk over the rows that pass a test can stand. Assumes nothing.
use Rattle.std.specs.Prelude.{ℕ, ◌≤◌, ◌<◌, ◌≡◌, Bool, true}

-- at such a row, or at the end
pub record Hit (p : ℕ → Bool) (r : ℕ) : Type 0 where
  pub bound : r ≤ 512
  pub here : r < 512 → p r ≡ true
