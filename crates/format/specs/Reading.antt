-- What a byte string reads as: a design with its rows and where its END ends, or a cause and a place (01, "The script" and "Causes of refusal":
-- "command by command 2, 1, 3, 4 (counts), 5, then 6"). Assumes nothing.
use Rattle.std.specs.Prelude.{ℕ, zero, suc, ◌+◌, ◌*◌, ◌≡◌, Bool, true, false, not, cond, ◌&&◌, ◌||◌, List, ◌++◌, eqb, leb, ltb, length, set, drop}
use Rattle.std.proofs.lemmas.List.Edits.{sets}
use Rattle.finite.specs.Finite.{all, tab}
use Rattle.state.specs.Cells.{Cells, cells_in}
use Rattle.state.specs.declared.design.Design.{Design}
use Rattle.state.specs.declared.design.Table as State-table
use Rattle.state.specs.declared.design.Constraint as State-constraint
use Rattle.state.specs.declared.design.Filling as State-filling
use Rattle.state.specs.Design.{empty_design}
use Rattle.state.specs.Held.{none_held}
use Rattle.state.specs.Lent.{lent, long_enough}
use Rattle.state.specs.Meaning.{free_table, scheme_of, database_of}
use Rattle.state.specs.Lawful.{table_fits, constraint_fits, filling_fits, row_fits, repeats}
use Rattle.command.specs.declared.command.Command.{Command}
use Rattle.command.specs.declared.command.Command.TheVariants.{Table, Constraint, Filling, Row, End, Operate, Put, Remove, Unknown, Short}
use Rattle.format.specs.declared.verdict.Verdict.{Verdict}
use Rattle.format.specs.declared.verdict.Verdict.TheVariants.{Accepted, Refused}
use Rattle.format.specs.declared.verdict.DesignReading.{DesignReading}
use Rattle.command.specs.Bytes.{byte_at}
use Rattle.command.specs.Commands.{command_at, width_of, row_cell_at, row_issue_at}

-- a design with its rows, as far as it has been read: how many rows, and 4,096 cells with their issues and 512 row tables. Where no row has been read,
-- "a free number has row table 255 and all else 0, after reading a design too" (02, Req 12)
pub record Draft : Type 0 where
  pub design : Design
  pub rows : ℕ
  pub cells : Cells
  pub tables : List ℕ

unfoldable pub empty_draft : Draft
empty_draft = record { design = empty_design; rows = 0; cells = cells_in (tab 4096 (λ _. 0)) (tab 4096 (λ _. 0)); tables = tab 512 (λ _. free_table) }

-- ---- one more table, constraint, filling or row

unfoldable pub with_table : Design → State-table.Table → Design
with_table d t = record { tables = d.tables + 1; table = set d.table d.tables t; constraints = d.constraints; constraint = d.constraint; fillings = d.fillings; filling = d.filling }

unfoldable pub with_constraint : Design → State-constraint.Constraint → Design
with_constraint d c = record { tables = d.tables; table = d.table; constraints = d.constraints + 1; constraint = set d.constraint d.constraints c; fillings = d.fillings; filling = d.filling }

unfoldable pub with_filling : Design → State-filling.Filling → Design
with_filling d f = record { tables = d.tables; table = d.table; constraints = d.constraints; constraint = d.constraint; fillings = d.fillings + 1; filling = set d.filling d.fillings f }

-- the row whose command stands at place i: "row r's cells begin at cell 8 times r"
unfoldable pub with_row : Draft → List ℕ → ℕ → ℕ → Draft
with_row p s i t =
    record {
      design = p.design;
      rows = p.rows + 1;
      cells = cells_in (sets p.cells.numbers (8 * p.rows) (tab 8 (row_cell_at s i))) (sets p.cells.issues (8 * p.rows) (tab 8 (row_issue_at s i)));
      tables = set p.tables p.rows t;
    }

-- ---- one command of a design

-- what a command gives: the reading goes on with a draft, the design is complete, or a cause of refusal
pub data Advanced : Type 0 where
  on : Draft → Advanced
  complete : Advanced
  refused : ℕ → Advanced

-- the refusal where its cause applies, else what comes after it in the order of causes
abbrev pub refused_if : Bool → ℕ → Advanced → Advanced
refused_if true n t = refused n
refused_if false n t = t

-- "all TABLEs, then CONSTRAINTs, FILLINGs, ROWs, then END": something of a later kind has been read, with n the number of rows read
abbrev pub after_tables : Design → ℕ → Bool
after_tables d n = ltb 0 d.constraints || (ltb 0 d.fillings || ltb 0 n)

abbrev pub after_constraints : Design → ℕ → Bool
after_constraints d n = ltb 0 d.fillings || ltb 0 n

abbrev pub after_fillings : ℕ → Bool
after_fillings n = ltb 0 n

abbrev pub redesigned : Draft → Design → Draft
redesigned p d = record { design = d; rows = p.rows; cells = p.cells; tables = p.tables }

-- the command at place i is "a 0x07 with all issues 0" (02, Req 06)
unfoldable pub needless : List ℕ → ℕ → Bool
needless s i = eqb (byte_at s i) 0x07 && all 8 (λ c. eqb (row_issue_at s i c) 0)

-- q is the draft with row r put in: causes 5 and 6 of that row
unfoldable pub row_advanced : Draft → ℕ → Advanced
row_advanced q r =
    refused_if (not (row_fits (scheme_of q.design) (database_of q.cells q.tables) r)) 5
    (refused_if (repeats (scheme_of q.design) (database_of q.cells q.tables) r) 6
    (on q))

-- the command c, which stands at place i, read into the draft p
unfoldable pub advanced : Draft → List ℕ → ℕ → Command → Advanced
advanced p s i (Table t) =
    refused_if (after_tables p.design p.rows) 3
    (refused_if (leb 8 p.design.tables) 4
    (refused_if (not (table_fits t)) 5
    (on (redesigned p (with_table p.design t)))))
advanced p s i (Constraint c) =
    refused_if (after_constraints p.design p.rows) 3
    (refused_if (leb 16 p.design.constraints) 4
    (refused_if (not (constraint_fits p.design p.design.constraints c)) 5
    (on (redesigned p (with_constraint p.design c)))))
advanced p s i (Filling f) =
    refused_if (after_fillings p.rows) 3
    (refused_if (leb 8 p.design.fillings) 4
    (refused_if (not (filling_fits p.design p.design.fillings f)) 5
    (on (redesigned p (with_filling p.design f)))))
advanced p s i (Row t) =
    refused_if (leb 512 p.rows) 4
    (refused_if (needless s i) 5
    (row_advanced (with_row p s i t) p.rows))
advanced p s i End = complete
advanced p s i (Operate o) = refused 3
advanced p s i (Put r t) = refused 3
advanced p s i (Remove r) = refused 3
advanced p s i Unknown = refused 2
advanced p s i Short = refused 1

-- a draft as the code has it: the design, how many rows, and the arrays
abbrev pub draft : Design → ℕ → Cells → List ℕ → Draft
draft d n cells tables = record { design = d; rows = n; cells = cells; tables = tables }

-- ---- the whole design

-- a design with its rows and the place after its END; or a cause and the place of the faulty command
pub data DesignRead : Type 0 where
  accepted : Draft → ℕ → DesignRead
  refused_at : ℕ → ℕ → DesignRead

-- what the command at place i, of width w, leads to: `go` reads on
abbrev pub read_on : (Draft → ℕ → DesignRead) → Draft → ℕ → ℕ → Advanced → DesignRead
read_on go p i w (on q) = go q (i + w)
read_on go p i w complete = accepted p (i + w)
read_on go p i w (refused c) = refused_at c i

-- the design read on from place i, with n more commands at the most
unfoldable pub read_from : ℕ → List ℕ → Draft → ℕ → DesignRead
read_from zero s p i = refused_at 1 i
read_from (suc n) s p i = read_on (read_from n s) p i (width_of (byte_at s i)) (advanced p s i (command_at s i))

-- the most bytes that a script may have
abbrev pub most_bytes : ℕ
most_bytes = 65536

-- "Over 65,536 script bytes" is 4 at place 0. A command takes at least one byte, so there are fewer commands than length s + 1.
unfoldable pub read_design : List ℕ → DesignRead
read_design s = cond (ltb most_bytes (length s)) (refused_at 4 0) (read_from (suc (length s)) s empty_draft 0)

-- what a reading answers
abbrev pub verdict_of : DesignRead → Verdict
verdict_of (accepted p i) = Accepted i
verdict_of (refused_at c i) = Refused c i

abbrev pub design_of : DesignRead → Design
design_of (accepted p i) = p.design
design_of (refused_at c i) = empty_design

-- how many rows it has read
abbrev pub rows_read : DesignRead → ℕ
rows_read (accepted p i) = p.rows
rows_read (refused_at c i) = 0

-- what the code answers for a whole design, and the arrays that it leaves where it is accepted
pub record Read (w : DesignRead) (r : DesignReading) (cells : Cells) (tables : List ℕ) : Type 0 where
  pub verdict : r.verdict ≡ verdict_of w
  pub design : r.design ≡ design_of w
  pub count : r.rows ≡ rows_read w
  pub rows : (p : Draft) (i : ℕ) → w ≡ accepted p i → (cells ≡ p.cells) × (tables ≡ p.tables)

-- ---- reading into lent buffers

-- cause 7 first, whatever the script: 4,096 cells with their issues, 512 row tables and 512 marks are lent, or more
unfoldable pub read_into : List ℕ → Cells → List ℕ → List ℕ → DesignRead
read_into s cells tables marks = cond (long_enough (lent empty_design cells tables marks none_held)) (read_design s) (refused_at 7 0)

-- the lent buffers afterwards: stored only with an accepted design, "the cache is empty, and longer buffers are untouched past the sizes"
abbrev pub cells_after : DesignRead → Cells → Cells
cells_after (accepted p i) cells = cells_in (p.cells.numbers ++ drop 4096 cells.numbers) (p.cells.issues ++ drop 4096 cells.issues)
cells_after (refused_at c i) cells = cells

abbrev pub tables_after : DesignRead → List ℕ → List ℕ
tables_after (accepted p i) tables = p.tables ++ drop 512 tables
tables_after (refused_at c i) tables = tables

abbrev pub marks_after : DesignRead → List ℕ → List ℕ
marks_after (accepted p i) marks = tab 512 (λ _. 0) ++ drop 512 marks
marks_after (refused_at c i) marks = marks

-- what a call of the reader answers, and what it leaves of each lent buffer, before and after
pub record Leaves (w : DesignRead) (r : DesignReading) (cs cs' : Cells) (ts ts' ms ms' : List ℕ) : Type 0 where
  pub verdict : r.verdict ≡ verdict_of w
  pub design : r.design ≡ design_of w
  pub count : r.rows ≡ rows_read w
  pub cells : cs' ≡ cells_after w cs
  pub tables : ts' ≡ tables_after w ts
  pub marks : ms' ≡ marks_after w ms
