-- What a lawful state is, in plain terms: the counts, what stands in each used place, that nothing stands twice, that the rest is 0, and that
-- the marks are the smallest row set. That the tests of cause 12 say this, both ways, is proved in proofs/LawfulState.antt. Assumes nothing.
use Rattle.std.specs.Prelude.{ℕ, suc, ◌+◌, ◌^◌, ◌≤◌, ◌<◌, ◌≡◌, false, ◌≢◌, ◌⊎◌, List, get_or, take}
use Rattle.model.specs.Scheme.{ColumnOf}
use Rattle.model.specs.Database.{Lawful}
use Rattle.model.specs.Cache.{Smallest}
use Rattle.model.specs.Holding.{held_in}
use Rattle.model.specs.Runs.{marked}
use Rattle.state.specs.Cells.{Cells}
use Rattle.state.specs.declared.design.Table.{Table}
use Rattle.state.specs.declared.design.Constraint.{Constraint}
use Rattle.state.specs.declared.design.Filling.{Filling}
use Rattle.state.specs.declared.design.Design.{Design}
use Rattle.state.specs.declared.held.HeldValue.{HeldValue}
use Rattle.state.specs.declared.held.Range.{Range}
use Rattle.state.specs.declared.held.DeskRanges.{DeskRanges}
use Rattle.state.specs.declared.held.Held.{Held}
use Rattle.state.specs.Design.{no_table, no_constraint, no_filling, table_at, constraint_at, filling_at}
use Rattle.state.specs.Held.{no_cell, no_value, no_range, held_at, range_at, ranges_at}
use Rattle.state.specs.Meaning.{cell_at, column_of, scheme_of, database_of, holding_of}
use Rattle.state.specs.Lawful.{own_count}
use Rattle.state.specs.Lent.{State, scheme, database}

-- ---- the design

-- "1 to 8 columns", and unique bits for these alone
pub record LawfulTable (t : Table) : Type 0 where
  pub some : 1 ≤ t.columns
  pub most : t.columns ≤ 8
  pub bits : t.unique < 2 ^ t.columns

pub record LawfulConstraint (d : Design) (c : Constraint) : Type 0 where
  pub source : ColumnOf (scheme_of d) (column_of c.source)
  pub target : ColumnOf (scheme_of d) (column_of c.target)

pub record LawfulFilling (d : Design) (f : Filling) : Type 0 where
  pub column : ColumnOf (scheme_of d) (column_of f.column)
  pub low : 1 ≤ f.low
  pub high : f.low ≤ f.high

pub record LawfulDesign (d : Design) : Type 0 where
  pub tables : d.tables ≤ 8
  pub constraints : d.constraints ≤ 16
  pub fillings : d.fillings ≤ 8
  pub table : (t : ℕ) → t < d.tables → LawfulTable (table_at d t)
  pub constraint : (i : ℕ) → i < d.constraints → LawfulConstraint d (constraint_at d i)
  pub filling : (f : ℕ) → f < d.fillings → LawfulFilling d (filling_at d f)
  -- no constraint and no filling column twice
  pub constraint_once : (i j : ℕ) → i < j → j < d.constraints → constraint_at d i ≢ constraint_at d j
  pub filling_once : (f g : ℕ) → f < g → g < d.fillings → (filling_at d f).column ≢ (filling_at d g).column
  -- unused places are 0
  pub table_rest : (t : ℕ) → t < 8 → d.tables ≤ t → table_at d t ≡ no_table
  pub constraint_rest : (i : ℕ) → i < 16 → d.constraints ≤ i → constraint_at d i ≡ no_constraint
  pub filling_rest : (f : ℕ) → f < 8 → d.fillings ≤ f → filling_at d f ≡ no_filling

-- ---- the rows

pub record LawfulRows (d : Design) (cells : Cells) (tables : List ℕ) : Type 0 where
  pub database : Lawful (scheme_of d) (database_of cells tables)
  -- numbers without a row have no cells
  pub cell_rest : (r c : ℕ) → r < 512 → c < 8 → (database_of cells tables).live r ≡ false → cell_at cells r c ≡ no_cell

-- ---- the held values

-- a pair of an existing filling and one of its candidates
pub record LawfulPair (d : Design) (v : HeldValue) : Type 0 where
  pub filling : v.filling < d.fillings
  pub low : (filling_at d v.filling).low ≤ v.value.number
  pub high : v.value.number ≤ (filling_at d v.filling).high

-- a range of an existing filling, not empty and wholly of candidates
pub record LawfulRange (d : Design) (r : Range) : Type 0 where
  pub filling : r.filling < d.fillings
  pub full : r.low ≤ r.high
  pub low : (filling_at d r.filling).low ≤ r.low
  pub high : r.high ≤ (filling_at d r.filling).high

-- a rises to b, with a gap in one filling
abbrev pub Rises : Range → Range → Type 0
Rises a b = (a.filling < b.filling) ⊎ ((a.filling ≡ b.filling) × (a.high + 1 < b.low))

pub record LawfulRanges (d : Design) (s : DeskRanges) : Type 0 where
  pub count : s.count ≤ 8
  pub range : (i : ℕ) → i < s.count → LawfulRange d (range_at s i)
  pub rises : (i : ℕ) → suc i < s.count → Rises (range_at s i) (range_at s (suc i))
  pub rest : (i : ℕ) → i < 8 → s.count ≤ i → range_at s i ≡ no_range

pub record LawfulHeld (d : Design) (h : Held) : Type 0 where
  pub count : h.count ≤ 64
  -- one of four desks is named, each value is of one, and each has at most 16
  pub named : h.desk < 4
  pub desk : (i : ℕ) → i < h.count → (held_at h i).desk < 4
  pub share : (e : ℕ) → e < 4 → own_count h e ≤ 16
  pub pair : (i : ℕ) → i < h.count → LawfulPair d (held_at h i).pair
  -- no pair twice in a desk
  pub once : (i j : ℕ) → i < j → j < h.count → held_at h i ≢ held_at h j
  pub rest : (i : ℕ) → i < 64 → h.count ≤ i → held_at h i ≡ no_value
  -- each desk's ranges
  pub ranges : (e : ℕ) → e < 4 → LawfulRanges d (ranges_at h e)

-- ---- the whole

pub record LawfulState (s : State) : Type 0 where
  pub design : LawfulDesign s.design
  pub rows : LawfulRows s.design s.cells s.tables
  pub held : LawfulHeld s.design s.held
  -- a mark is 0 or 1, and those that are 1 are the smallest row set for the held values
  pub marks : (r : ℕ) → r < 512 → get_or s.marks r 0 ≤ 1
  pub smallest : Smallest (scheme s) (database s) (held_in (scheme s) (holding_of s.held)) (marked (take 512 s.marks))
