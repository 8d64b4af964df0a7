-- Writing into a lent buffer from an index on. Assumes nothing.
use Rattle.std.specs.Prelude.{ℕ, ◌+◌, ◌≡◌, List, length}
use Rattle.std.proofs.lemmas.List.Edits.{sets}

-- the buffer, o before and o' after, has the words w from index n on, z is the index behind them, and all else is untouched
pub record Wrote {A : Type 0} (o o' : List A) (n z : ℕ) (w : List A) : Type 0 where
  pub next : z ≡ n + length w
  pub text : o' ≡ sets o n w
