-- Walks along the links of the catalog, and which values a load has walked, so that it walks each value of a column once: for each cell, whether the
-- walk of its value began at its row. Levels only grow, so that once the rows that have a value have been walked, they have levels, and another walk
-- of them would add nothing. Assumes nothing.
use Rattle.std.specs.Prelude.{ℕ, ◌+◌, ◌*◌, ◌≤◌, ◌<◌, ◌≡◌, Bool, true, false, ◌&&◌, List, ltb, get_or}
use Rattle.model.specs.Database.{Database, has}
use Rattle.model.specs.Cache.{RowSet}
use Rattle.model.specs.Rounds.{level}
use Rattle.finite.specs.Finite.{first_from}
use Rattle.catalog.specs.Catalog.{column_at}

-- the rows of row r's table that have the value of row r's cell p in the same column
unfoldable pub alike : Database → ℕ → ℕ → RowSet
alike D r p = has D (column_at D r p) (D.cell r p)

-- a walk along place p can begin at r: at the first row that has its value, or at 512
pub record Begins (D : Database) (p r : ℕ) : Type 0 where
  pub bound : r ≤ 512
  pub first : r < 512 → r ≡ first_from 512 (alike D r p) 0

-- the rows that it passes: those alike row r, and none from 512
unfoldable pub along : Database → ℕ → ℕ → RowSet
along D p r s = ltb r 512 && alike D r p s

-- where `walked` says so of row r's cell p, the rows that have its value in that column all have a level
pub record Walked (D : Database) (walked : List Bool) (L : List ℕ) : Type 0 where
  pub levels : (r p : ℕ) → p < 8 → get_or walked (8 * r + p) false ≡ true → (s : ℕ) → s < 512 → alike D r p s ≡ true → 0 < level L s
