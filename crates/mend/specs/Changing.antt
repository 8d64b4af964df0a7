-- The catalog while a row comes or goes: two databases that differ by one row, and what each step leaves of the arrays. Assumes nothing.
use Rattle.std.specs.Prelude.{ℕ, ◌+◌, ◌*◌, ◌≤◌, ◌<◌, ◌≡◌, Bool, true, false, List, length, get_or}
use Rattle.model.specs.Cell.{Cell}
use Rattle.model.specs.Scheme as Model
use Rattle.model.specs.Database.{Database, has}
use Rattle.catalog.specs.Catalog.{next_of, heads_in, starts_in, Directory, Links}

-- E is F without row r: number r is free in E, and every other number has in E what it has in F
pub record Without (E F : Database) (r : ℕ) : Type 0 where
  pub bound : r < 512
  pub size-without : E.size ≡ 512
  pub size-with : F.size ≡ 512
  pub free : E.live r ≡ false
  pub live : (s : ℕ) → (s ≡ r → ⊥) → E.live s ≡ F.live s
  pub table : (s : ℕ) → (s ≡ r → ⊥) → E.table s ≡ F.table s
  pub cell : (s c : ℕ) → (s ≡ r → ⊥) → E.cell s c ≡ F.cell s c

-- q is the last number before r that passes
pub record Last (p : ℕ → Bool) (r q : ℕ) : Type 0 where
  pub below : q < r
  pub here : p q ≡ true
  pub none : (s : ℕ) → q < s → s < r → p s ≡ false

-- ---- next rows

-- the next rows of the cells in place c are D's
pub record Chained (D : Database) (c : ℕ) (catalog : List ℕ) : Type 0 where
  pub at : (s : ℕ) → s < 512 → get_or catalog (8 * s + c) 0 ≡ next_of D s c

-- row r has the value v in column k of F; the next rows in the column's place are those of D, and the directory is that of the rows without r
pub record Linking (D E F : Database) (r : ℕ) (k : Model.Column) (v : Cell) (catalog keys : List ℕ) : Type 0 where
  pub without : Without E F r
  pub value : has F k v r ≡ true
  pub directory : Directory E keys (heads_in catalog) (starts_in catalog)
  pub chained : Chained D k.place catalog

-- nothing but next rows in place c is another
pub record Place (c : ℕ) (xs ys : List ℕ) : Type 0 where
  pub long : length ys ≡ length xs
  pub other : (s a : ℕ) → a < 8 → (a ≡ c → ⊥) → get_or ys (8 * s + a) 0 ≡ get_or xs (8 * s + a) 0
  pub behind : (x : ℕ) → 4096 ≤ x → get_or ys x 0 ≡ get_or xs x 0

-- the next rows are D's, and nothing else is another
pub record Relinked (D : Database) (xs ys : List ℕ) : Type 0 where
  pub links : Links D ys
  pub behind : (x : ℕ) → 4096 ≤ x → get_or ys x 0 ≡ get_or xs x 0
