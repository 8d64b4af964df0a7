-- What the steps of a change that isn't refused answer and leave: the marks of a load from nothing, and a row stored before it. Assumes nothing.
use Rattle.std.specs.Prelude.{ℕ, ◌≤◌, ◌<◌, ◌≡◌, Bool, true, false, not, cond, ◌&&◌, ◌||◌, List, ◌++◌, Option, None, Some, eqb, drop, get_or}
use Rattle.model.specs.Cell.{blank, is_blank}
use Rattle.model.specs.Scheme.{Column, Scheme}
use Rattle.model.specs.Database.{Database}
use Rattle.model.specs.Cache.{RowSet}
use Rattle.model.specs.Holding.{Holding, held_in}
use Rattle.model.specs.Probe.{demanded}
use Rattle.model.specs.Rounds.{demands}
use Rattle.model.specs.Runs.{marks, cached_for}
use Rattle.model.specs.Answers.{Answer, refused}
use Rattle.state.specs.declared.held.Held.{Held}
use Rattle.state.specs.declared.rows.Row.{Row}
use Rattle.state.specs.Meaning.{holding_of, cache_of}
use Rattle.state.specs.HeldWords.{record_in}
use Rattle.state.specs.Lent.{State, scheme, cache, cause_of}
use Rattle.mend.specs.Changing.{Without}
use Rattle.state.specs.Changes.{rows, row_cell, tables_of, stored, changed_answer, changed_with, Change, Changed}

-- the number n, where 0 stands for none
abbrev pub unless_zero : ℕ → Option ℕ
unless_zero n = cond (eqb n 0) None (Some n)

-- D are the tables as they now are: the marks m become m', those of the smallest set, and a tells how many rows came and went
pub record Remarked (S : Scheme) (D : Database) (h : Held) (m : List ℕ) (a : Answer) (m' : List ℕ) : Type 0 where
  pub answer : a ≡ changed_answer S D (cache_of h m)
  pub marks : m' ≡ marks D (cached_for S D (holding_of h)) ++ drop 512 m

-- the marks m are those of the smallest set for the tables D
pub record Marking (S : Scheme) (D : Database) (h : Held) (m : List ℕ) : Type 0 where
  pub at : (r : ℕ) → r < 512 → get_or m r 0 ≡ cond (cached_for S D (holding_of h) r) 1 0

-- row r of F goes, and leaves E; the marks m are those from before. It demands a row only if `on` says so
pub record Leaving (S : Scheme) (E F : Database) (h : Held) (r : ℕ) (on : Bool) (m : List ℕ) : Type 0 where
  pub without : Without E F r
  pub marking : Marking S F h m
  pub last : on ≡ false → (t : ℕ) → t < 512 → demands S F r t ≡ false

-- row r of F, which is x, has come to E; the marks m are those from before
pub record Coming (S : Scheme) (E F : Database) (h : Held) (r : ℕ) (x : Row) (m : List ℕ) : Type 0 where
  pub without : Without E F r
  pub marking : Marking S E h m
  pub live : F.live r ≡ true
  pub table : F.table r ≡ x.table
  pub cell : (c : ℕ) → c < 8 → F.cell r c ≡ row_cell x c
  pub past : (c : ℕ) → 8 ≤ c → F.cell r c ≡ blank

-- column c of x's table
abbrev pub column_in : Row → ℕ → Column
column_in x c = record { table = x.table; place = c }

-- x's value in column c is held there, or a row of X demands the rows that have it there
unfoldable pub called_at : Scheme → Database → Holding → RowSet → Row → ℕ → Bool
called_at S D h X x c = not (is_blank (row_cell x c)) && (held_in S h (column_in x c) (row_cell x c) || demanded S D X (column_in x c) (row_cell x c))

-- what is answered and left of a state s in which x is stored as row r
pub record Replaced (s : State) (r : ℕ) (x : Row) (a : Answer) (s' : State) : Type 0 where
  pub answer : a ≡ changed_answer (scheme s) (tables_of (stored (rows s) r x)) (cache s)
  pub state : s' ≡ changed_with s (stored (rows s) r x)

-- the change x of a state s whose held values are lent as words: where they are the words of a record, as of the record; otherwise it is refused by cause 7
-- or 12, and all stays
pub record ChangedWords (s : State) (words : List ℕ) (x : Change) (a : Answer) (s' : State) : Type 0 where
  pub changed : record_in words ≡ true → Changed s x a s'
  pub refused : record_in words ≡ false → (a ≡ refused (cause_of s words)) × (s' ≡ s)
