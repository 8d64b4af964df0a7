-- The queue of a load: the rows that its rounds have added, in the order in which they got their levels, so that a round finds the rows of the
-- round before without a search. Assumes nothing.
use Rattle.std.specs.Prelude.{ℕ, ◌≤◌, ◌<◌, ◌≡◌, true, List, eqb, ltb, length, get_or}
use Rattle.finite.specs.Finite.{any, count}
use Rattle.model.specs.Cache.{RowSet}
use Rattle.model.specs.Rounds.{level}
use Rattle.load.specs.Raised.{raised}

-- the rows that rounds have added
unfoldable pub added : List ℕ → RowSet
added L r = ltb 1 (level L r)

-- the first `end` places of q hold the rows of P, each once: there are as many places as rows
pub record Listed (P : RowSet) (q : List ℕ) (end : ℕ) : Type 0 where
  pub long : length q ≡ 512
  pub size : end ≡ count 512 P
  pub row : (i : ℕ) → i < end → get_or q i 0 < 512
  pub is : (i : ℕ) → i < end → P (get_or q i 0) ≡ true
  pub there : (r : ℕ) → r < 512 → P r ≡ true → any end (λ i. eqb (get_or q i 0) r) ≡ true

-- a step: the rows of P that had no level have level n and a place at the queue's end; other levels and earlier places stay
pub record Grown (n : ℕ) (P : RowSet) (L q : List ℕ) (end : ℕ) (L' q' : List ℕ) (end' : ℕ) : Type 0 where
  pub long : length L' ≡ 512
  pub levels : L' ≡ raised L n P
  pub queue : Listed (added L') q' end'
  pub longer : end ≤ end'
  pub kept : (i : ℕ) → i < end → get_or q' i 0 ≡ get_or q i 0
  pub fresh : (i : ℕ) → end ≤ i → i < end' → level L' (get_or q' i 0) ≡ n

-- the rows of level n stand in the queue's places from `from` to `end`, and rows of lower levels before them
pub record Front (n : ℕ) (L q : List ℕ) (from end : ℕ) : Type 0 where
  pub order : from ≤ end
  pub earlier : (i : ℕ) → i < from → level L (get_or q i 0) < n
  pub front : (i : ℕ) → from ≤ i → i < end → level L (get_or q i 0) ≡ n
