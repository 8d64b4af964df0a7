-- When a lent state is lawful (01, cause 12: "a design or rows that no script gives, unused places not 0, a held pair twice or no candidate, over
-- 64 held, or marks that aren't 1 on exactly the smallest set and 0 elsewhere"; 02, Req 06, 07, 10 and 12: "gaps are lawful under 12"). Each item is
-- tested against those before it, as a script's reader tests it. Assumes nothing.
use Rattle.std.specs.Prelude.{ℕ, ◌-◌, ◌^◌, Bool, not, cond, ◌&&◌, ◌||◌, List, eqb, leb, ltb, get_or}
use Rattle.finite.specs.Finite.{any, all, count}
use Rattle.model.specs.Cell.{Cell, is_blank, numberless}
use Rattle.model.specs.Scheme as Model
use Rattle.model.specs.Scheme.{same_column, is_column, candidate, Scheme}
use Rattle.model.specs.Database.{Database, has}
use Rattle.model.specs.Rounds.{reached}
use Rattle.model.specs.Ranges.{is_range, only_candidates, stands_before}
use Rattle.model.specs.Holding.{desks, places, most_ranges, same_owned}
use Rattle.model.specs.Runs.{reload_levels}
use Rattle.state.specs.declared.design.Table.{Table}
use Rattle.state.specs.declared.design.Column.{Column}
use Rattle.state.specs.declared.design.Constraint.{Constraint}
use Rattle.state.specs.declared.design.Filling.{Filling}
use Rattle.state.specs.declared.design.Design.{Design}
use Rattle.state.specs.declared.held.OwnedValue.{OwnedValue}
use Rattle.state.specs.declared.held.Range.{Range}
use Rattle.state.specs.declared.held.DeskRanges.{DeskRanges}
use Rattle.state.specs.declared.held.Held.{Held}
use Rattle.state.specs.Cells.{Cells}
use Rattle.state.specs.Design.{table_at, constraint_at, filling_at}
use Rattle.state.specs.Held.{held_at, range_at, ranges_at}
use Rattle.state.specs.Meaning.{column_of, filling_of, owned_of, range_of, holding_of, scheme_of, database_of}

-- place i is used and passes the test, or is unused and 0
abbrev pub used_or : ℕ → ℕ → Bool → Bool → Bool
used_or i n used zero = cond (ltb i n) used zero

-- ---- the design

-- "1 to 8 columns", and no "bit .. that names nothing"
unfoldable pub table_fits : Table → Bool
table_fits t = leb 1 t.columns && (leb t.columns 8 && ltb t.unique (2 ^ t.columns))

unfoldable pub zero_table : Table → Bool
zero_table t = eqb t.columns 0 && eqb t.unique 0

unfoldable pub zero_column : Column → Bool
zero_column k = eqb k.table 0 && eqb k.place 0

unfoldable pub same_constraint : Constraint → Constraint → Bool
same_constraint a b = same_column (column_of a.source) (column_of b.source) && same_column (column_of a.target) (column_of b.target)

-- c can stand as constraint n: both columns exist, and none before it is the same
unfoldable pub constraint_fits : Design → ℕ → Constraint → Bool
constraint_fits d n c =
    is_column (scheme_of d) (column_of c.source) &&
    (is_column (scheme_of d) (column_of c.target) &&
    not (any n (λ i. same_constraint (constraint_at d i) c)))

unfoldable pub zero_constraint : Constraint → Bool
zero_constraint c = zero_column c.source && zero_column c.target

-- f can stand as filling n: the column exists, "low 0 or above high" is not so, and no filling before it has the column
unfoldable pub filling_fits : Design → ℕ → Filling → Bool
filling_fits d n f =
    is_column (scheme_of d) (column_of f.column) &&
    (leb 1 f.low &&
    (leb f.low f.high &&
    not (any n (λ i. same_column (column_of (filling_at d i).column) (column_of f.column)))))

unfoldable pub zero_filling : Filling → Bool
zero_filling f = zero_column f.column && (eqb f.low 0 && eqb f.high 0)

unfoldable pub counts_fit : Design → Bool
counts_fit d = leb d.tables 8 && (leb d.constraints 16 && leb d.fillings 8)

unfoldable pub lawful_design : Design → Bool
lawful_design d =
    counts_fit d &&
    (all 8 (λ i. used_or i d.tables (table_fits (table_at d i)) (zero_table (table_at d i))) &&
    (all 16 (λ i. used_or i d.constraints (constraint_fits d i (constraint_at d i)) (zero_constraint (constraint_at d i))) &&
    all 8 (λ i. used_or i d.fillings (filling_fits d i (filling_at d i)) (zero_filling (filling_at d i)))))

-- ---- the rows

-- "those past the table's columns 0", and no "issue on a blank or past the columns" (02, Req 06): a cell without a number is blank, one with a number
-- stands in one of the table's n columns
unfoldable pub cell_fits : ℕ → ℕ → Cell → Bool
cell_fits n c a = cond (numberless a) (is_blank a) (ltb c n)

-- a row of table t with the cells a: the table exists, and they fit
abbrev pub fits_table : Scheme → ℕ → (ℕ → Cell) → Bool
fits_table S t a = ltb t S.tables && all 8 (λ c. cell_fits (S.columns t) c (a c))

unfoldable pub row_fits : Scheme → Database → ℕ → Bool
row_fits S D r = fits_table S (D.table r) (D.cell r)

-- column k is unique, and one of the rows below number n has the value there
abbrev pub stood_below : Scheme → Database → ℕ → Model.Column → Cell → Bool
stood_below S D n k v = S.unique k && any n (has D k v)

-- an earlier row has row r's value in column c, which is unique
unfoldable pub repeats_at : Scheme → Database → ℕ → ℕ → Bool
repeats_at S D r c = stood_below S D r (record { table = D.table r; place = c }) (D.cell r c)

-- "A unique column gets a value other than blank twice"
unfoldable pub repeats : Scheme → Database → ℕ → Bool
repeats S D r = any 8 (repeats_at S D r)

-- no cell at number r: "a free number has row table 255 and all else 0" (02, Req 12)
unfoldable pub blank_row : Database → ℕ → Bool
blank_row D r = all 8 (λ c. is_blank (D.cell r c))

unfoldable pub lawful_rows : Design → Cells → List ℕ → Bool
lawful_rows d cells tables =
    let S = scheme_of d in
    let D = database_of cells tables in
    all 512 (λ r. cond (D.live r) (row_fits S D r && not (repeats S D r)) (blank_row D r))

-- ---- the held values

-- v can stand as held value n: its desk and its filling exist, it is a candidate, and its desk doesn't hold it before
unfoldable pub held_fits : Design → Held → ℕ → OwnedValue → Bool
held_fits d h n v =
    ltb v.desk desks &&
    (ltb v.pair.filling d.fillings &&
    (candidate (filling_of (filling_at d v.pair.filling)) (owned_of v).pair.value &&
    not (any n (λ i. same_owned (owned_of (held_at h i)) (owned_of v)))))

unfoldable pub zero_held : OwnedValue → Bool
zero_held v = eqb v.desk 0 && (eqb v.pair.filling 0 && is_blank (owned_of v).pair.value)

-- how many values desk e holds
unfoldable pub own_count : Held → ℕ → ℕ
own_count h e = count h.count (λ i. eqb (held_at h i).desk e)

-- ---- the ranges of a desk (02, Req 10: "a desk's list rises by filling, then low, and has gaps within each filling; a state with any other, with over 8 for a
-- desk or with one empty or not wholly of candidates is unlawful")

-- place i has a range that is not empty and wholly of candidates, and the one before it stands before it
unfoldable pub range_fits : Design → DeskRanges → ℕ → Bool
range_fits d s i =
    is_range (scheme_of d) (range_of (range_at s i)) &&
    (only_candidates (scheme_of d) (range_of (range_at s i)) &&
    (eqb i 0 || stands_before (range_of (range_at s (i - 1))) (range_of (range_at s i))))

unfoldable pub zero_range : Range → Bool
zero_range r = eqb r.filling 0 && (eqb r.low 0 && eqb r.high 0)

unfoldable pub lawful_ranges : Design → DeskRanges → Bool
lawful_ranges d s = leb s.count most_ranges && all most_ranges (λ i. used_or i s.count (range_fits d s i) (zero_range (range_at s i)))

-- "12 looks at pairs and limits desk by desk, and at a desk above 3, named or of a pair" (02, Req 07); 16 for each of the desks are "64 held"
unfoldable pub lawful_held : Design → Held → Bool
lawful_held d h =
    ltb h.desk desks &&
    (leb h.count 64 &&
    (all desks (λ e. leb (own_count h e) places) &&
    (all 64 (λ i. used_or i h.count (held_fits d h i (held_at h i)) (zero_held (held_at h i))) &&
    all desks (λ e. lawful_ranges d (ranges_at h e)))))

-- ---- the marks

-- 1 on exactly the smallest row set for the held values, which a load of all of them from nothing gives, and 0 elsewhere
unfoldable pub lawful_marks : Design → Cells → List ℕ → Held → List ℕ → Bool
lawful_marks d cells tables h marks =
    let D = database_of cells tables in
    let L = reload_levels (scheme_of d) D (holding_of h) in
    all 512 (λ r. eqb (get_or marks r 0) (cond (reached L r) 1 0))
