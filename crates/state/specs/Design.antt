-- The design's places: what stands at a number, the empty design, and what inner functions ask of a design and of lent rows. Assumes nothing.
use Rattle.std.specs.Prelude.{ℕ, ◌≤◌, ◌<◌, List, length, get_or}
use Rattle.finite.specs.Finite.{tab}
use Rattle.state.specs.declared.design.Table.{Table}
use Rattle.state.specs.declared.design.Column.{Column}
use Rattle.state.specs.declared.design.Constraint.{Constraint}
use Rattle.state.specs.declared.design.Filling.{Filling}
use Rattle.state.specs.declared.design.Design.{Design}
use Rattle.state.specs.Cells.{Cells}

-- what stands in an unused place
abbrev pub no_table : Table
no_table = record { columns = 0; unique = 0 }

abbrev pub no_column : Column
no_column = record { table = 0; place = 0 }

abbrev pub no_constraint : Constraint
no_constraint = record { source = no_column; target = no_column }

abbrev pub no_filling : Filling
no_filling = record { column = no_column; low = 0; high = 0 }

abbrev pub table_at : Design → ℕ → Table
table_at d t = get_or d.table t no_table

abbrev pub constraint_at : Design → ℕ → Constraint
constraint_at d i = get_or d.constraint i no_constraint

abbrev pub filling_at : Design → ℕ → Filling
filling_at d f = get_or d.filling f no_filling

unfoldable pub empty_design : Design
empty_design =
    record {
      tables = 0;
      table = tab 8 (λ _. no_table);
      constraints = 0;
      constraint = tab 16 (λ _. no_constraint);
      fillings = 0;
      filling = tab 8 (λ _. no_filling);
    }

-- what inner functions ask of a design: its numbers stay inside the arrays. Every lawful design has this.
pub record InRange (d : Design) : Type 0 where
  pub tables : d.tables ≤ 8
  pub constraints : d.constraints ≤ 16
  pub fillings : d.fillings ≤ 8
  pub source : (i : ℕ) → (constraint_at d i).source.place < 8
  pub target : (i : ℕ) → (constraint_at d i).target.place < 8
  pub column : (f : ℕ) → (filling_at d f).column.place < 8
  pub source-table : (i : ℕ) → (constraint_at d i).source.table < 8
  pub target-table : (i : ℕ) → (constraint_at d i).target.table < 8
  pub column-table : (f : ℕ) → (filling_at d f).column.table < 8

-- what inner functions ask of the buffers that hold the rows
pub record Backed (cells : Cells) (tables : List ℕ) : Type 0 where
  pub rows : 4096 ≤ length cells.numbers
  pub issued : 4096 ≤ length cells.issues
  pub members : 512 ≤ length tables
