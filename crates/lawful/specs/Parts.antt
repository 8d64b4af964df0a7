-- The parts of a lawful state, place by place, as the loops over the places decide them. Assumes nothing.
use Rattle.std.specs.Prelude.{ℕ, Bool, cond, List, leb}
use Rattle.finite.specs.Finite.{all}
use Rattle.model.specs.Holding.{desks, places}
use Rattle.state.specs.Cells.{Cells}
use Rattle.state.specs.declared.design.Design.{Design}
use Rattle.state.specs.declared.held.DeskRanges.{DeskRanges}
use Rattle.state.specs.declared.held.Held.{Held}
use Rattle.state.specs.Design.{table_at, constraint_at, filling_at}
use Rattle.state.specs.Held.{held_at, range_at, ranges_at}
use Rattle.state.specs.Meaning.{scheme_of, database_of}
use Rattle.state.specs.Lawful.{used_or, table_fits, zero_table, constraint_fits, zero_constraint, filling_fits, zero_filling}
use Rattle.state.specs.Lawful.{row_fits, blank_row, held_fits, zero_held, own_count, range_fits, zero_range, lawful_ranges}

-- ---- a design's places: each holds what can stand there, or is unused and 0

abbrev pub table_lawful : Design → ℕ → Bool
table_lawful d i = used_or i d.tables (table_fits (table_at d i)) (zero_table (table_at d i))

abbrev pub tables_lawful : Design → Bool
tables_lawful d = all 8 (table_lawful d)

abbrev pub constraint_lawful : Design → ℕ → Bool
constraint_lawful d i = used_or i d.constraints (constraint_fits d i (constraint_at d i)) (zero_constraint (constraint_at d i))

abbrev pub constraints_lawful : Design → Bool
constraints_lawful d = all 16 (constraint_lawful d)

abbrev pub filling_lawful : Design → ℕ → Bool
filling_lawful d i = used_or i d.fillings (filling_fits d i (filling_at d i)) (zero_filling (filling_at d i))

abbrev pub fillings_lawful : Design → Bool
fillings_lawful d = all 8 (filling_lawful d)

-- ---- a row's places

-- row r fits, or there is none and no cell
abbrev pub row_stands : Design → Cells → List ℕ → ℕ → Bool
row_stands d cells tables r =
    let D = database_of cells tables in
    cond (D.live r) (row_fits (scheme_of d) D r) (blank_row D r)

-- what lawful rows are, but for the values of unique columns
unfoldable pub rows_stand : Design → Cells → List ℕ → Bool
rows_stand d cells tables = all 512 (row_stands d cells tables)

-- ---- a held record's desks and places

-- no desk has more than its share
abbrev pub shares_kept : Held → Bool
shares_kept h = all desks (λ e. leb (own_count h e) places)

abbrev pub held_lawful : Design → Held → ℕ → Bool
held_lawful d h i = used_or i h.count (held_fits d h i (held_at h i)) (zero_held (held_at h i))

-- ---- a desk's ranges

abbrev pub range_lawful : Design → DeskRanges → ℕ → Bool
range_lawful d s i = used_or i s.count (range_fits d s i) (zero_range (range_at s i))

abbrev pub ranges_lawful : Design → Held → Bool
ranges_lawful d h = all desks (λ e. lawful_ranges d (ranges_at h e))
