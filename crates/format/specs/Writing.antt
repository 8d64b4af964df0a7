-- What a design with its rows is written as: its tables, constraints and fillings in order of their numbers, "the rows left, in rising number" (02, Req 12),
-- then END; and the draft that this reads as, whose rows have no gaps. Assumes nothing.
use Rattle.std.specs.Prelude.{ℕ, ◌+◌, ◌*◌, ◌/◌, ◌%◌, ◌≤◌, ◌<◌, ◌≡◌, Bool, true, not, cond, ◌&&◌, List, [], ◌∷◌, ◌++◌, eqb, ltb, length, get_or}
use Rattle.finite.specs.Finite.{any, count, tab, collect}
use Rattle.state.specs.Cells.{Cells, cells_in}
use Rattle.state.specs.declared.cell.Cell.{Cell}
use Rattle.state.specs.declared.design.Table.{Table}
use Rattle.state.specs.declared.design.Constraint.{Constraint}
use Rattle.state.specs.declared.design.Filling.{Filling}
use Rattle.state.specs.declared.design.Design.{Design}
use Rattle.state.specs.Design.{table_at, constraint_at, filling_at}
use Rattle.state.specs.Meaning.{free_table, cell_at, database_of}
use Rattle.command.specs.Bytes.{u32_bytes}
use Rattle.format.specs.Reading.{Draft, draft}
use Rattle.format.specs.Kinds.{count_of}

unfoldable pub table_bytes : Table → List ℕ
table_bytes t = 0x01 ∷ t.columns ∷ t.unique ∷ []

unfoldable pub constraint_bytes : Constraint → List ℕ
constraint_bytes c = 0x02 ∷ c.source.table ∷ c.source.place ∷ c.target.table ∷ c.target.place ∷ []

unfoldable pub filling_bytes : Filling → List ℕ
filling_bytes f = 0x03 ∷ f.column.table ∷ f.column.place ∷ (u32_bytes f.low ++ u32_bytes f.high)

abbrev pub number_bytes : Cell → List ℕ
number_bytes a = u32_bytes a.number

-- the numbers of a row's eight cells, and their issues
unfoldable pub cells_bytes : Cells → ℕ → List ℕ
cells_bytes cells r = collect 8 (λ _. true) (λ c. number_bytes (cell_at cells r c))

unfoldable pub issues_bytes : Cells → ℕ → List ℕ
issues_bytes cells r = tab 8 (λ c. (cell_at cells r c).issue)

-- one of row r's issues isn't 0
unfoldable pub is_issued : Cells → ℕ → Bool
is_issued cells r = any 8 (λ c. not (eqb (cell_at cells r c).issue 0))

-- 0x07 is used "only where an issue isn't 0" (02, Req 06)
unfoldable pub row_bytes : Cells → List ℕ → ℕ → List ℕ
row_bytes cells tables r = cond (is_issued cells r) (0x07 ∷ get_or tables r 0 ∷ (cells_bytes cells r ++ issues_bytes cells r)) (0x04 ∷ get_or tables r 0 ∷ cells_bytes cells r)

unfoldable pub design_bytes : Design → Cells → List ℕ → List ℕ
design_bytes d cells tables =
    collect d.tables (λ _. true) (λ i. table_bytes (table_at d i)) ++
    (collect d.constraints (λ _. true) (λ i. constraint_bytes (constraint_at d i)) ++
    (collect d.fillings (λ _. true) (λ i. filling_bytes (filling_at d i)) ++
    (collect 512 (database_of cells tables).live (row_bytes cells tables) ++
    (0x05 ∷ []))))

-- ---- the same kind by kind, as the code writes it

-- the row at number r, if there is one
abbrev pub row_at : Cells → List ℕ → ℕ → List ℕ
row_at cells tables r = cond ((database_of cells tables).live r) (row_bytes cells tables r) []

-- the command of kind b that has number i among them, none where no row has the number, and all of the kind
unfoldable pub item_bytes : Design → Cells → List ℕ → ℕ → ℕ → List ℕ
item_bytes d cells tables b i =
    cond (eqb b 0x01) (table_bytes (table_at d i))
    (cond (eqb b 0x02) (constraint_bytes (constraint_at d i))
    (cond (eqb b 0x03) (filling_bytes (filling_at d i))
    (row_at cells tables i)))

abbrev pub kind_bytes : Design → Cells → List ℕ → ℕ → List ℕ
kind_bytes d cells tables b = collect (count_of d 512 b) (λ _. true) (item_bytes d cells tables b)

-- ---- how long it is

-- behind the tables of 3 bytes, the constraints of 5 and the fillings of 11 there are m rows of 34 bytes, k of them with issues, of 42
abbrev pub place_after : Design → ℕ → ℕ → ℕ
place_after d m k = 3 * d.tables + 5 * d.constraints + 11 * d.fillings + 34 * m + 8 * k

-- where row r's command begins if all numbers before r have a row; and where the END stands, with r the number of rows
unfoldable pub row_place : Design → Cells → ℕ → ℕ
row_place d cells r = place_after d r (count r (is_issued cells))

-- where the END stands, whichever numbers have a row
unfoldable pub end_place : Design → Cells → List ℕ → ℕ
end_place d cells tables =
    let live = (database_of cells tables).live in
    place_after d (count 512 live) (count 512 (λ r. live r && is_issued cells r))

-- ---- rows without gaps: "reading it back may renumber them"

-- just the numbers below n have a row
pub record Dense (n : ℕ) (cells : Cells) (tables : List ℕ) : Type 0 where
  pub most : n ≤ 512
  pub live : (r : ℕ) → r < 512 → (database_of cells tables).live r ≡ ltb r n

-- the numbers that have a row, rising
abbrev pub numbers_left : Cells → List ℕ → List ℕ
numbers_left cells tables = collect 512 (database_of cells tables).live (λ r. r ∷ [])

-- of the cells' numbers or issues xs those of the rows ns, one row behind the other, and 0 behind them
abbrev pub cells_left : List ℕ → List ℕ → List ℕ
cells_left ns xs = tab 4096 (λ x. cond (ltb (x / 8) (length ns)) (get_or xs (8 * get_or ns (x / 8) 0 + x % 8) 0) 0)

-- the design with the rows left, which now have the numbers from 0 on
unfoldable pub compact : Design → Cells → List ℕ → Draft
compact d cells tables =
    let ns = numbers_left cells tables in
    draft d (length ns) (cells_in (cells_left ns cells.numbers) (cells_left ns cells.issues))
    (tab 512 (λ r. cond (ltb r (length ns)) (get_or tables (get_or ns r 0) 0) free_table))
