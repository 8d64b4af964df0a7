-- How the code reads a design: a first pass leaves cause 6 aside, so that each command is looked at once; the catalog of the rows read then tells
-- the first row that repeats a value. Assumes nothing.
use Rattle.std.specs.Prelude.{Result, Ok, Err, ℕ, zero, suc, ◌*◌, ◌/◌, ◌%◌, ◌≤◌, ◌<◌, ◌≡◌, Bool, true, false, not, cond, List, leb, ltb, get_or}
use Rattle.state.specs.Cells.{Cells}
use Rattle.state.specs.declared.design.Design.{Design}
use Rattle.state.specs.Design.{InRange}
use Rattle.state.specs.Meaning.{cell_in, scheme_of, database_of}
use Rattle.state.specs.Lawful.{row_fits, repeats}
use Rattle.catalog.specs.Catalog.{Catalogued}
use Rattle.command.specs.declared.command.Command.{Command}
use Rattle.command.specs.declared.command.Command.TheVariants.{Table, Constraint, Filling, Row, End, Operate, Put, Remove, Unknown, Short}
use Rattle.format.specs.declared.verdict.Verdict.{Verdict}
use Rattle.format.specs.declared.verdict.Verdict.TheVariants.{Accepted, Refused}
use Rattle.format.specs.declared.verdict.DesignReading.{DesignReading}
use Rattle.format.specs.declared.reading.Progress.{Progress}
use Rattle.format.specs.declared.reading.Progress.TheVariants.{On, Complete}
use Rattle.format.specs.declared.reading.SoFar.{SoFar}
use Rattle.format.specs.declared.reading.Stop.{Stop}
use Rattle.format.specs.Reading.{Draft, draft, Advanced, refused_if, needless, advanced, with_row, DesignRead}
use Rattle.format.specs.Reading.Advanced.{on, complete, refused}
use Rattle.format.specs.Reading.DesignRead.{accepted, refused_at}
use Rattle.format.specs.Writing.{row_place}

-- ---- one command

-- the command c, which stands at place i, read into the draft p without a look at cause 6: a row that repeats a value is put in like any other
unfoldable pub admitted : Draft → List ℕ → ℕ → Command → Advanced
admitted p s i (Row t) =
    let q = with_row p s i t in
    refused_if (leb 512 p.rows) 4
    (refused_if (needless s i) 5
    (refused_if (not (row_fits (scheme_of q.design) (database_of q.cells q.tables) p.rows)) 5
    (on q)))
admitted p s i (Table t) = advanced p s i (Table t)
admitted p s i (Constraint c) = advanced p s i (Constraint c)
admitted p s i (Filling f) = advanced p s i (Filling f)
admitted p s i End = advanced p s i End
admitted p s i (Operate o) = advanced p s i (Operate o)
admitted p s i (Put r t) = advanced p s i (Put r t)
admitted p s i (Remove r) = advanced p s i (Remove r)
admitted p s i Unknown = advanced p s i Unknown
admitted p s i Short = advanced p s i Short

-- what the code answers for a command
abbrev pub outcome_of : Advanced → Result Progress ℕ
outcome_of (on p) = Ok On
outcome_of complete = Ok Complete
outcome_of (refused n) = Err n

-- the first n rows are as they were
pub record Kept (n : ℕ) (cells : Cells) (tables : List ℕ) (cells' : Cells) (tables' : List ℕ) : Type 0 where
  pub cell : (x : ℕ) → x < 8 * n → cell_in cells' x ≡ cell_in cells x
  pub table : (r : ℕ) → r < n → get_or tables' r 0 ≡ get_or tables r 0

-- the command c at place i, read into the draft p: the code has answered o, and left the design and the number of rows r and the arrays
pub record Advances (p : Draft) (s : List ℕ) (i : ℕ) (c : Command) (o : Result Progress ℕ) (r : SoFar) (cells : Cells) (tables : List ℕ) : Type 0 where
  pub outcome : o ≡ outcome_of (admitted p s i c)
  pub goes : (q : Draft) → admitted p s i c ≡ on q → q ≡ draft r.design r.rows cells tables
  pub whole : admitted p s i c ≡ complete → p ≡ draft r.design r.rows cells tables
  pub stays : (n : ℕ) → admitted p s i c ≡ refused n → (r.design ≡ p.design) × (r.rows ≡ p.rows)
  pub kept : Kept p.rows p.cells p.tables cells tables

-- ---- the first pass

-- row r repeats a value of an earlier row in a unique column
abbrev pub again : Design → Cells → List ℕ → ℕ → Bool
again d cells tables r = repeats (scheme_of d) (database_of cells tables) r

-- none of the first n numbers passes, and r is the first of them that does
abbrev pub None : ℕ → (ℕ → Bool) → Type 0
None n p = (r : ℕ) → r < n → p r ≡ false

pub record Earliest (n : ℕ) (p : ℕ → Bool) (r : ℕ) : Type 0 where
  pub below : r < n
  pub here : p r ≡ true
  pub before : None r p

-- the reading that has this verdict, with the draft p where it is accepted
abbrev pub read_as : Verdict → Draft → DesignRead
read_as (Accepted j) p = accepted p j
read_as (Refused n i) p = refused_at n i

-- a script that reads as w has been read up to the END or to the first command that is refused, with cause 6 left aside: the code has answered r
pub record Stopped (w : DesignRead) (r : Stop) (cells : Cells) (tables : List ℕ) : Type 0 where
  pub range : InRange r.design
  pub most : r.rows ≤ 512
  pub once : None r.rows (again r.design cells tables) → w ≡ read_as r.verdict (draft r.design r.rows cells tables)
  pub twice : (q : ℕ) → Earliest r.rows (again r.design cells tables) q
      → w ≡ refused_at 6 (row_place r.design cells q)

-- ---- the first repeated value, by the next rows of a catalog

-- the next row of cell number x in its column where the column is unique; 512 where it is not or there is none
unfoldable pub unique_next : Design → List ℕ → List ℕ → ℕ → ℕ
unique_next d tables next x = cond ((scheme_of d).unique (record { table = get_or tables (x / 8) 0; place = x % 8 })) (get_or next x 0) 512

abbrev pub lower : ℕ → ℕ → ℕ
lower a b = cond (ltb b a) b a

-- the lowest of f 0, f 1, .. f (n - 1), and 512 if none is below that
unfoldable pub lowest : ℕ → (ℕ → ℕ) → ℕ
lowest zero f = 512
lowest (suc n) f = lower (lowest n f) (f n)

-- ---- the catalog of an accepted design

-- the rows of an accepted design are catalogued
abbrev pub Opens : DesignReading → Cells → List ℕ → List ℕ → List ℕ → Type 0
Opens r cells tables catalog keys = (i : ℕ) → r.verdict ≡ Accepted i → Catalogued (scheme_of r.design) (database_of cells tables) catalog keys

-- ... and a refused one leaves the catalog's arrays as they were: a and k before
pub record Keeps (r : DesignReading) (a a' k k' : List ℕ) : Type 0 where
  pub catalog : (c i : ℕ) → r.verdict ≡ Refused c i → a' ≡ a
  pub keys : (c i : ℕ) → r.verdict ≡ Refused c i → k' ≡ k
