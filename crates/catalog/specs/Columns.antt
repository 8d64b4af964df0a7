-- All columns while they are listed, one after the other. Assumes nothing.
use Rattle.std.specs.Prelude.{ℕ, zero, suc, ◌+◌, ◌*◌, ◌/◌, ◌%◌, ◌≤◌, ◌<◌, ◌≡◌, true, List, length, get_or}
use Rattle.finite.specs.Finite.{count}
use Rattle.model.specs.Scheme as Model
use Rattle.model.specs.Database.{Database}
use Rattle.catalog.specs.Catalog.{next_of, Lists}
use Rattle.catalog.specs.Listing.{in_table}

-- column number j, of 64
abbrev pub column_no : ℕ → Model.Column
column_no j = record { table = j / 8; place = j % 8 }

-- how many row numbers have row table t
unfoldable pub size_of : Database → ℕ → ℕ
size_of D t = count 512 (in_table D t)

-- how many places the first n columns need at most
unfoldable pub used : Database → ℕ → ℕ
used D zero = 0
used D (suc n) = used D n + size_of D (n / 8)

-- the next rows of the cells of the first n columns are set
abbrev pub Linked : Database → ℕ → List ℕ → Type 0
Linked D n next = (s c : ℕ) → c < 8 → D.live s ≡ true → 8 * D.table s + c < n → get_or next (8 * s + c) 0 ≡ next_of D s c

-- the first n columns are listed, and end at place m
pub record Columns (D : Database) (n m : ℕ) (keys heads starts next : List ℕ) : Type 0 where
  pub keys-long : length keys ≡ 4096
  pub heads-long : length heads ≡ 4096
  pub starts-long : length starts ≡ 65
  pub next-long : length next ≡ 4096
  pub room : m ≤ used D n
  pub last : get_or starts n 0 ≡ m
  pub ends : (j : ℕ) → j ≤ n → get_or starts j 0 ≤ m
  pub lists : (j : ℕ) → j < n → Lists D (column_no j) (get_or starts j 0) (get_or starts (j + 1) 0) keys heads
  pub linked : Linked D n next
