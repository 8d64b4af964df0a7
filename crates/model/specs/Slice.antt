-- A slice: the part D of a database B, of any number of rows, that a desk is given, and when it is enough for what the desk holds (003's backend is larger than
-- any cache). Row r of D is row `at r` of B: D's numbers are few and B's are not. Assumes nothing.
use Rattle.std.specs.Prelude.{ℕ, ◌<◌, ◌≡◌, true, ◌&&◌, eqb}
use Rattle.finite.specs.Finite.{any}
use Rattle.model.specs.Cell.{Cell}
use Rattle.model.specs.Scheme.{Column, Scheme}
use Rattle.model.specs.Database.{Database, Has}
use Rattle.model.specs.Cache.{RowSet, Held}

-- every row of D is a row of B, with the same table and cells, and no two are one
pub record Slice (at : ℕ → ℕ) (D B : Database) : Type 0 where
  pub live : (r : ℕ) → D.live r ≡ true → B.live (at r) ≡ true
  pub table : (r : ℕ) → D.live r ≡ true → B.table (at r) ≡ D.table r
  pub cell : (r c : ℕ) → D.live r ≡ true → B.cell (at r) c ≡ D.cell r c
  pub apart : (r s : ℕ) → D.live r ≡ true → D.live s ≡ true → at r ≡ at s → r ≡ s

-- the rows stand in the same order in both, so that lists do
abbrev pub InOrder : (ℕ → ℕ) → Database → Type 0
InOrder at D = (r s : ℕ) → D.live r ≡ true → D.live s ≡ true → r < s → at r < at s

-- rows of D, those of X, under B's numbers
unfoldable pub in_full : (ℕ → ℕ) → Database → RowSet → RowSet
in_full at D X s = any D.size (λ r. X r && eqb (at r) s)

-- row s of B is in the slice
pub record Here (at : ℕ → ℕ) (D : Database) (s : ℕ) : Type 0 where
  pub row : ℕ
  pub live : D.live row ≡ true
  pub number : at row ≡ s

-- the value was fetched whole: every row of B that has v in column k is in the slice
unfoldable pub Fetched : (ℕ → ℕ) → Database → Database → Column → Cell → Type 0
Fetched at D B k v = (s : ℕ) → Has B k v s → Here at D s

-- the slice is enough for the held values H and the cached rows X: fetched whole is every held value, and every value that a constraint demands of a cached row
pub record Enough (S : Scheme) (at : ℕ → ℕ) (D B : Database) (H : Held) (X : RowSet) : Type 0 where
  pub held : (k : Column) (v : Cell) → H k v ≡ true → Fetched at D B k v
  pub demanded : (i r : ℕ) (v : Cell) → i < S.constraints → X r ≡ true → Has D (S.constraint i).source v r → Fetched at D B (S.constraint i).target v
