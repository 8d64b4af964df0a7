-- How the later rounds of a load end: with the first that adds nothing, or as soon as a given number of rows has been added. And when that number of
-- rows is enough. Assumes nothing.
use Rattle.std.specs.Prelude.{ℕ, ◌≤◌, ◌≡◌, true, List, ◌⊎◌, length}
use Rattle.finite.specs.Finite.{count}
use Rattle.model.specs.Scheme.{Scheme}
use Rattle.model.specs.Database.{Database}
use Rattle.model.specs.Cache.{RowSet, Inside}
use Rattle.model.specs.Rounds.{demands, levels, reached, later_rounds}
use Rattle.load.specs.Queue.{added}

-- M are the levels of the whole load that begins with L, and so many of its later rounds added a row
pub record Whole (S : Scheme) (D : Database) (L M : List ℕ) (rounds : ℕ) : Type 0 where
  pub levels : M ≡ levels S D L 512
  pub counted : rounds ≡ later_rounds D M

-- M are the levels after so many later rounds, and `most` rows have been added
pub record Enough (S : Scheme) (D : Database) (L : List ℕ) (most : ℕ) (M : List ℕ) (rounds : ℕ) : Type 0 where
  pub levels : M ≡ levels S D L rounds
  pub early : rounds ≤ 512
  pub reached : most ≤ count 512 (added M)

-- the later rounds on L ended with the levels M, `rows` added rows, and so many rounds
pub record Ended (S : Scheme) (D : Database) (L : List ℕ) (most : ℕ) (M : List ℕ) (rows rounds : ℕ) : Type 0 where
  pub size : rows ≡ count 512 (added M)
  pub end : Whole S D L M rounds ⊎ Enough S D L most M rounds

-- X has the rows of `seed`, and what its rows demand: a load of `seed` from nothing adds no others
pub record Covers (S : Scheme) (D : Database) (seed X : RowSet) : Type 0 where
  pub closed : (s r : ℕ) → X s ≡ true → demands S D s r ≡ true → X r ≡ true
  pub seeds : Inside seed X

-- there is such a row set that has no more than `most` rows
pub record Within (S : Scheme) (D : Database) (seed : RowSet) (most : ℕ) : Type 0 where
  pub set : RowSet
  pub covers : Covers S D seed set
  pub few : count 512 set ≤ most

-- M are the levels K, and so many rows have one
pub record Reaches (M K : List ℕ) (rows : ℕ) : Type 0 where
  pub long : length M ≡ 512
  pub levels : M ≡ K
  pub size : rows ≡ count 512 (reached M)
