-- The buffers that a run of a script is lent, and the state with which it begins: the design just read, its rows, nothing held, no row cached. Assumes nothing.
use Rattle.std.specs.Prelude.{ℕ, List, ◌++◌, take, drop as past}
use Rattle.state.specs.Cells.{Cells, cells_in}
use Rattle.state.specs.Held.{none_held}
use Rattle.state.specs.Lent.{State, lent}
use Rattle.format.specs.Reading.{DesignRead, read_into, design_of, cells_after, tables_after, marks_after}
use Rattle.script.specs.Step.{Outputs}

-- the buffers that a run is lent
pub record Buffers : Type 0 where
  pub cells : Cells
  pub tables : List ℕ
  pub marks : List ℕ
  pub outputs : Outputs

abbrev pub buffers : Cells → List ℕ → List ℕ → Outputs → Buffers
buffers cells tables marks out = record { cells = cells; tables = tables; marks = marks; outputs = out }

-- what the script reads as
abbrev pub reading_of : List ℕ → Buffers → DesignRead
reading_of script b = read_into script b.cells b.tables b.marks

-- the state with which a run begins: "an accepted design just read: nothing held, no row cached"
abbrev pub just_read : DesignRead → Buffers → State
just_read R b = lent (design_of R) (cells_after R b.cells) (tables_after R b.tables) (marks_after R b.marks) none_held

-- ---- rows in buffers that are longer than they are

-- the cells, and others behind them; the first n, and what lies past these
abbrev pub longer : Cells → Cells → Cells
longer cells more = cells_in (cells.numbers ++ more.numbers) (cells.issues ++ more.issues)

abbrev pub first_cells : ℕ → Cells → Cells
first_cells n cells = cells_in (take n cells.numbers) (take n cells.issues)

abbrev pub past_cells : ℕ → Cells → Cells
past_cells n cells = cells_in (past n cells.numbers) (past n cells.issues)
