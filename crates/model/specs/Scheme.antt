-- What a design fixes besides its rows: tables with their columns, constraints, fillings (01, "Tables, links and held values"). Assumes nothing.
use Rattle.std.specs.Prelude.{ℕ, ◌<◌, Bool, ◌&&◌, eqb, leb, ltb}
use Rattle.model.specs.Cell.{Cell}

-- a column: its table and its place there
pub record Column : Type 0 where
  pub table : ℕ
  pub place : ℕ

-- the two are one column
unfoldable pub same_column : Column → Column → Bool
same_column j k = eqb j.table k.table && eqb j.place k.place

-- a referential cache constraint, source → target (003, definition 4)
pub record Constraint : Type 0 where
  pub source : Column
  pub target : Column

-- a filling column with its candidates, "a range low to high with both ends counted" (003, definition 7)
pub record Filling : Type 0 where
  pub column : Column
  pub low : ℕ
  pub high : ℕ

unfoldable pub candidate : Filling → Cell → Bool
candidate f v = leb f.low v.number && leb v.number f.high

-- "Tables, constraints, fillings .. are each numbered from 0." A table's columns are those below `columns`.
pub record Scheme : Type 0 where
  pub tables : ℕ
  pub columns : ℕ → ℕ
  pub unique : Column → Bool
  pub constraints : ℕ
  pub constraint : ℕ → Constraint
  pub fillings : ℕ
  pub filling : ℕ → Filling

-- a column of the scheme
pub record ColumnOf (S : Scheme) (k : Column) : Type 0 where
  pub table : k.table < S.tables
  pub place : k.place < S.columns k.table

unfoldable pub is_column : Scheme → Column → Bool
is_column S k = ltb k.table S.tables && ltb k.place (S.columns k.table)
