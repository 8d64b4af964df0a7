-- Rows that come and go (02, Req 12): what putting a row in and removing one does to the lent rows, when it is refused, what it answers, and the state
-- afterwards, for whatever is lent. Assumes nothing.
use Rattle.std.specs.Prelude.{ℕ, ◌*◌, ◌≡◌, Bool, not, cond, ◌&&◌, List, ◌++◌, eqb, ltb, get_or, drop, set}
use Rattle.std.proofs.lemmas.List.Edits.{sets}
use Rattle.finite.specs.Finite.{any, count, tab}
use Rattle.model.specs.Cell as Model-cell
use Rattle.model.specs.Scheme.{Scheme}
use Rattle.model.specs.Database.{Database}
use Rattle.model.specs.Rounds.{reached}
use Rattle.model.specs.Runs.{Cache, marks, marked, cached_for, reload_levels}
use Rattle.model.specs.Answers.{Answer, unless, changed}
use Rattle.state.specs.declared.rows.Row.{Row}
use Rattle.state.specs.Cells.{Cells, cells_in}
use Rattle.state.specs.Meaning.{cell_of, free_table, database_of}
use Rattle.state.specs.Lawful.{fits_table, stood_below}
use Rattle.state.specs.Lent.{State, lent, scheme, cache, sound, guarded}

-- 0x1D puts the row x in at number r; 0x1E removes the row at number r
pub data Change : Type 0 where
  put : ℕ → Row → Change
  remove : ℕ → Change

-- the lent rows
pub record Rows : Type 0 where
  pub cells : Cells
  pub tables : List ℕ

abbrev pub rows_in : Cells → List ℕ → Rows
rows_in cells tables = record { cells = cells; tables = tables }

-- the tables that they are
abbrev pub tables_of : Rows → Database
tables_of R = database_of R.cells R.tables

-- cell c of the row x
abbrev pub row_cell : Row → ℕ → Model-cell.Cell
row_cell x c = cell_of (record { number = get_or x.numbers c 0; issue = get_or x.issues c 0 })

-- "a free number has row table 255 and all else 0"
abbrev pub free_row : Row
free_row = record { table = free_table; numbers = tab 8 (λ _. 0); issues = tab 8 (λ _. 0) }

-- the number that a change is about, and what stands there afterwards
abbrev pub number_of : Change → ℕ
number_of (put r x) = r
number_of (remove r) = r

abbrev pub row_of : Change → Row
row_of (put r x) = x
row_of (remove r) = free_row

-- with x as row r, whose cells begin at cell 8 times r
unfoldable pub stored : Rows → ℕ → Row → Rows
stored R r x =
    rows_in (cells_in (sets R.cells.numbers (8 * r) x.numbers) (sets R.cells.issues (8 * r) x.issues))
    (set R.tables r x.table)

-- ---- causes

-- number r can be taken
unfoldable pub is_free : Rows → ℕ → Bool
is_free R r = ltb r 512 && not ((tables_of R).live r)

-- a row has a value of x, other than blank, in a unique column
unfoldable pub stands : Scheme → Rows → Row → Bool
stands S R x = any 8 (λ c. stood_below S (tables_of R) 512 (record { table = x.table; place = c }) (row_cell x c))

-- "It refuses a number above 511, one taken for 0x1D or one free for 0x1E with 5, as 0x07's wrong operands (though all issues may be 0, and a blank isn't 9),
-- and a value other than blank twice in a unique column with 6"; 0 if it isn't refused
unfoldable pub change_cause : Scheme → Rows → Change → ℕ
change_cause S R (put r x) = cond (not (is_free R r && fits_table S x.table (row_cell x))) 5 (cond (stands S R x) 6 0)
change_cause S R (remove r) = cond ((tables_of R).live r) 0 5

-- ---- what a change does

-- the rows afterwards, "which follow from the design and the operands by the rules here"
unfoldable pub rows_after : Scheme → Rows → Change → Rows
rows_after S R x = cond (eqb (change_cause S R x) 0) (stored R (number_of x) (row_of x)) R

-- "`rows`, how many came and how many went, the row itself included if cached": D are the tables as they now are
unfoldable pub changed_answer : Scheme → Database → Cache → Answer
changed_answer S D c =
    let L = reload_levels S D c.held in
    changed (count 512 (λ r. reached L r && not (marked c.marks r))) (count 512 (λ r. marked c.marks r && not (reached L r)))

unfoldable pub change_answer : Scheme → Rows → Cache → Change → Answer
change_answer S R c x = unless (not (eqb (change_cause S R x) 0)) (change_cause S R x) (changed_answer S (tables_of (rows_after S R x)) c)

-- ---- of a lent state

abbrev pub rows : State → Rows
rows s = rows_in s.cells s.tables

unfoldable pub change_answer_at : State → Change → Answer
change_answer_at s x = guarded s (change_answer (scheme s) (rows s) (cache s) x)

-- "After each the cached rows are the smallest set for the tables as they now are"
unfoldable pub changed_with : State → Rows → State
changed_with s R =
    lent s.design R.cells R.tables (marks (tables_of R) (cached_for (scheme s) (tables_of R) (cache s).held) ++ drop 512 s.marks) s.held

-- the state afterwards; as it was where the change is refused
unfoldable pub state_changed : State → Change → State
state_changed s x =
    cond (sound s && eqb (change_cause (scheme s) (rows s) x) 0) (changed_with s (rows_after (scheme s) (rows s) x)) s

-- the change x of the state s answers a and leaves the state s'
pub record Changed (s : State) (x : Change) (a : Answer) (s' : State) : Type 0 where
  pub answer : a ≡ change_answer_at s x
  pub state : s' ≡ state_changed s x
