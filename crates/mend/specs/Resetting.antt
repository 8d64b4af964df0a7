-- The first rows that one constraint demands, where a row comes or goes. Assumes nothing.
use Rattle.std.specs.Prelude.{ℕ, ◌+◌, ◌*◌, ◌≤◌, ◌<◌, ◌≡◌, cond, List, length, get_or}
use Rattle.finite.specs.Finite.{first_from}
use Rattle.model.specs.Cell.{Cell}
use Rattle.model.specs.Scheme as Model
use Rattle.model.specs.Scheme.{Scheme}
use Rattle.model.specs.Database.{Database, has}
use Rattle.model.specs.Rounds.{leads}
use Rattle.catalog.specs.Catalog.{Demands}

-- nothing but the first rows of constraint number i is another
pub record Only (i : ℕ) (xs ys : List ℕ) : Type 0 where
  pub long : length ys ≡ length xs
  pub before : (x : ℕ) → x < 4096 + 512 * i → get_or ys x 0 ≡ get_or xs x 0
  pub behind : (x : ℕ) → 4096 + 512 * i + 512 ≤ x → get_or ys x 0 ≡ get_or xs x 0

-- the first rows that constraint j, number i, demands are D's
pub record Firsts (D : Database) (j : Model.Constraint) (i : ℕ) (catalog : List ℕ) : Type 0 where
  pub at : (s : ℕ) → s < 512 → get_or catalog (4096 + 512 * i + s) 0 ≡ first_from 512 (leads D j s) 0

-- the rows that have v in the constraint's source column have the first row that has it in the target column, the others what they had; where that first row
-- stands before r, all have what they had
pub record Reset (D : Database) (j : Model.Constraint) (i : ℕ) (v : Cell) (r : ℕ) (xs ys : List ℕ) : Type 0 where
  pub before : first_from 512 (has D j.target v) 0 < r → (s : ℕ) → s < 512 → get_or ys (4096 + 512 * i + s) 0 ≡ get_or xs (4096 + 512 * i + s) 0
  pub at : r ≤ first_from 512 (has D j.target v) 0 → (s : ℕ) → s < 512
      → get_or ys (4096 + 512 * i + s) 0 ≡ cond (has D j.source v s) (first_from 512 (has D j.target v) 0) (get_or xs (4096 + 512 * i + s) 0)

-- the first rows of all constraints of S are D's, and nothing else is another
pub record Redemanded (S : Scheme) (D : Database) (xs ys : List ℕ) : Type 0 where
  pub demands : Demands S D ys
  pub behind : (x : ℕ) → 12288 ≤ x → get_or ys x 0 ≡ get_or xs x 0

-- ... with the value by which the constraint demands row r of F, if it is a row of the target's table; else nothing is another
pub record Leads (D F : Database) (j : Model.Constraint) (i r : ℕ) (xs ys : List ℕ) : Type 0 where
  pub reset : F.table r ≡ j.target.table → Reset D j i (F.cell r j.target.place) r xs ys
  pub same : (F.table r ≡ j.target.table → ⊥) → (s : ℕ) → s < 512 → get_or ys (4096 + 512 * i + s) 0 ≡ get_or xs (4096 + 512 * i + s) 0
