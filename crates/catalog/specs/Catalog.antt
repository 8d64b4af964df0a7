-- The catalog of a design's rows, derived from them once: for each cell the next row that has the same cell in the same table's column, for each
-- constraint and row the first row that the constraint demands of it, and for each column its values, by their keys in falling order, with the first
-- row of each. Assumes nothing.
use Rattle.std.specs.Prelude.{ℕ, ◌+◌, ◌*◌, ◌/◌, ◌%◌, ◌≤◌, ◌<◌, ◌≡◌, true, cond, List, ltb, length, get_or}
use Rattle.std.proofs.lemmas.List.Edits.{sets}
use Rattle.finite.specs.Finite.{tab, first_from}
use Rattle.model.specs.Cell.{Cell, issued}
use Rattle.model.specs.Scheme as Model
use Rattle.model.specs.Scheme.{Scheme}
use Rattle.model.specs.Database.{Database, has}
use Rattle.model.specs.Rounds.{leads}

-- row r's column c
abbrev pub column_at : Database → ℕ → ℕ → Model.Column
column_at D r c = record { table = D.table r; place = c }

-- the next row after r that has r's cell c in the same column; 512 if there is none, or r is no row or blank there
unfoldable pub next_of : Database → ℕ → ℕ → ℕ
next_of D r c = cond (has D (column_at D r c) (D.cell r c) r) (first_from 512 (has D (column_at D r c) (D.cell r c)) (r + 1)) 512

-- the first row that constraint i demands of row s; 512 if there is none
unfoldable pub demanded_first : Scheme → Database → ℕ → ℕ → ℕ
demanded_first S D i s = cond (ltb i S.constraints) (first_from 512 (leads D (S.constraint i) s) 0) 512

abbrev pub nexts : Database → List ℕ
nexts D = tab 4096 (λ x. next_of D (x / 8) (x % 8))

abbrev pub firsts : Scheme → Database → List ℕ
firsts S D = tab 8192 (λ x. demanded_first S D (x / 512) (x % 512))

-- a value's key: keys rise with the number, then with the issue, and the blank's is 0. No two values that can be stored share one, for an issue is
-- below 256
unfoldable pub key_of : Cell → ℕ
key_of v = 256 * v.number + v.issue

-- the value with this key
unfoldable pub value_of : ℕ → Cell
value_of x = issued (x / 256) (x % 256)

-- the keys fall from place `from` to place `to`
abbrev pub Falls : ℕ → ℕ → List ℕ → Type 0
Falls from to keys = (i j : ℕ) → from ≤ i → i < j → j < to → get_or keys j 0 < get_or keys i 0

-- the keys of the values that the rows from r on have in column k stand in `keys` from place `from` to place `to`, falling, none a blank's, and
-- `heads` has the first of these rows for each
pub record Listed (D : Database) (k : Model.Column) (r from to : ℕ) (keys heads : List ℕ) : Type 0 where
  pub order : from ≤ to
  pub bound : to ≤ 4096
  pub falls : Falls from to keys
  pub value : (i : ℕ) → from ≤ i → i < to → 0 < get_or keys i 0
  pub head : (i : ℕ) → from ≤ i → i < to → get_or heads i 0 ≡ first_from 512 (has D k (value_of (get_or keys i 0))) r
  pub there : (s : ℕ) → r ≤ s → has D k (D.cell s k.place) s ≡ true
      → (i : ℕ) × (from ≤ i) × (i < to) × (get_or keys i 0 ≡ key_of (D.cell s k.place))

-- the same of all rows
abbrev pub Lists : Database → Model.Column → ℕ → ℕ → List ℕ → List ℕ → Type 0
Lists D k from to keys heads = Listed D k 0 from to keys heads

-- all 64 columns, column c of table t between places 8 * t + c and 8 * t + c + 1 of `starts`
pub record Directory (D : Database) (keys heads starts : List ℕ) : Type 0 where
  pub keys-long : length keys ≡ 4096
  pub heads-long : length heads ≡ 4096
  pub starts-long : length starts ≡ 65
  pub column : (t c : ℕ) → t < 8 → c < 8 → Lists D (record { table = t; place = c }) (get_or starts (8 * t + c) 0) (get_or starts (8 * t + c + 1) 0) keys heads

-- ---- where it stands: `catalog` has the parts next, first, heads and starts one behind the other, and `keys` stands apart

-- the n elements from place a on
unfoldable pub part : ℕ → ℕ → List ℕ → List ℕ
part a n xs = tab n (λ i. get_or xs (a + i) 0)

-- ys is xs with the elements of vs from place a on
pub record Stored (a : ℕ) (vs xs ys : List ℕ) : Type 0 where
  pub is : ys ≡ sets xs a vs
  pub long : length ys ≡ length xs

abbrev pub next_in : List ℕ → List ℕ
next_in catalog = part 0 4096 catalog

abbrev pub first_in : List ℕ → List ℕ
first_in catalog = part 4096 8192 catalog

abbrev pub heads_in : List ℕ → List ℕ
heads_in catalog = part 12288 4096 catalog

abbrev pub starts_in : List ℕ → List ℕ
starts_in catalog = part 16384 65 catalog

-- ---- of which database it is the catalog, in as many steps as there are kinds of readers: none of these names the rows' buffers

-- the links of a database that has 512 row numbers: for those who go from row to row of a value
pub record Links (D : Database) (catalog : List ℕ) : Type 0 where
  pub long : length catalog ≡ 16449
  pub size_is : D.size ≡ 512
  pub next-is : next_in catalog ≡ nexts D

-- ... and the rows that a scheme's constraints demand: for those who load
pub record Demands (S : Scheme) (D : Database) (catalog : List ℕ) : Type 0 where
  pub links : Links D catalog
  pub first-is : first_in catalog ≡ firsts S D

-- ... or the directory: for those who look a value up
pub record Indexed (D : Database) (catalog keys : List ℕ) : Type 0 where
  pub links : Links D catalog
  pub directory : Directory D keys (heads_in catalog) (starts_in catalog)

-- all of it
pub record Catalogued (S : Scheme) (D : Database) (catalog keys : List ℕ) : Type 0 where
  pub demands : Demands S D catalog
  pub index : Indexed D catalog keys
