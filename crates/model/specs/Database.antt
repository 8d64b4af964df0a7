-- A database: any finite number of rows under their numbers, and when it is lawful (01, "A database is lawful if ..."). Assumes nothing.
use Rattle.std.specs.Prelude.{ℕ, ◌≤◌, ◌<◌, ◌≡◌, Bool, true, ◌&&◌, eqb}
use Rattle.model.specs.Cell.{Cell, Fits, blank, equal}
use Rattle.model.specs.Scheme.{Column, Scheme}

-- A finite partial map from row numbers to rows: number r has a row if `live r`, and gaps are allowed.
-- What the other fields say of other numbers means nothing.
pub record Database : Type 0 where
  pub size : ℕ
  pub live : ℕ → Bool
  pub table : ℕ → ℕ
  pub cell : ℕ → ℕ → Cell
  pub finite : (r : ℕ) → live r ≡ true → r < size

-- row r of D is a row of k's table and has the value v in column k (v is then not blank)
pub record Has (D : Database) (k : Column) (v : Cell) (r : ℕ) : Type 0 where
  pub live : D.live r ≡ true
  pub table : D.table r ≡ k.table
  pub value : equal (D.cell r k.place) v ≡ true

-- the same, as a test
unfoldable pub has : Database → Column → Cell → ℕ → Bool
has D k v r = D.live r && (eqb (D.table r) k.table && equal (D.cell r k.place) v)

-- "A database is lawful if its rows, any number of them, belong to the design's tables and are blank past a table's columns, and its unique
-- columns obey the line above" (no value but blank twice). That its cells are u32 is what a cell is.
pub record Lawful (S : Scheme) (D : Database) : Type 0 where
  pub cells : (r c : ℕ) → D.live r ≡ true → Fits (D.cell r c)
  pub tables : (r : ℕ) → D.live r ≡ true → D.table r < S.tables
  pub blanks : (r c : ℕ) → D.live r ≡ true → S.columns (D.table r) ≤ c → D.cell r c ≡ blank
  pub unique : (k : Column) (v : Cell) (r s : ℕ) → S.unique k ≡ true → Has D k v r → Has D k v s → r ≡ s
