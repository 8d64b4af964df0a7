-- A state whose rows are a slice of a larger database, and what that database would have cached. Assumes nothing.
use Rattle.std.specs.Prelude.{ℕ, List}
use Rattle.model.specs.Database.{Database, Lawful}
use Rattle.model.specs.Missing.{Fetch, AllFulfilled}
use Rattle.model.specs.Runs.{Cache, reloaded}
use Rattle.model.specs.Slice.{Slice}
use Rattle.state.specs.Meaning.{holding_of}
use Rattle.state.specs.Lent.{State, scheme, database}

-- the state's rows are rows of the lawful database B, and each of the fetches fs was made there whole
pub record Fed (s : State) (at : ℕ → ℕ) (B : Database) (fs : List Fetch) : Type 0 where
  pub slice : Slice at (database s) B
  pub lawful : Lawful (scheme s) B
  pub fetched : AllFulfilled at (database s) B fs

-- what is held, with the rows of all of B that are cached for it
abbrev pub full_cache : State → Database → Cache
full_cache s B = reloaded (scheme s) B (holding_of s.held)
