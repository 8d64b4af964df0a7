-- The values of a range in the directory. Assumes nothing.
use Rattle.std.specs.Prelude.{ℕ, ◌+◌, ◌%◌, ◌≤◌, ◌<◌, ◌≡◌, cond, List, eqb, get_or}
use Rattle.finite.specs.Finite.{any, first_from}
use Rattle.model.specs.Cell.{Cell, blank}
use Rattle.model.specs.Scheme as Model
use Rattle.model.specs.Database.{Database, has}
use Rattle.model.specs.Ranges.{Range, has_range}
use Rattle.catalog.specs.Catalog.{value_of}

-- the value with this key, if its issue is 0; else the blank, which no row has
unfoldable pub plain_value : ℕ → Cell
plain_value x = cond (eqb (x % 256) 0) (value_of x) blank

-- the n places from `from` on have the first row of their values each, and the rows that have a value of the range in column k are those that have one of these
-- values, with issue 0
pub record Spanned (D : Database) (k : Model.Column) (q : Range) (keys heads : List ℕ) (from n : ℕ) : Type 0 where
  pub bound : from + n ≤ 4096
  pub first : (j : ℕ) → j < n → get_or heads (from + j) 0 ≡ first_from 512 (has D k (value_of (get_or keys (from + j) 0))) 0
  pub rows : (s : ℕ) → has_range D k q s ≡ any n (λ j. has D k (plain_value (get_or keys (from + j) 0)) s)
