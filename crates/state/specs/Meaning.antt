-- What the lent values mean in the model: nothing above this file looks at buffers. Assumes nothing.
use Rattle.std.specs.Prelude.{ℕ, ◌+◌, ◌-◌, ◌*◌, ◌/◌, ◌%◌, ◌^◌, Bool, not, cond, ◌&&◌, List, [], ◌∷◌, eqb, ltb, length, get_or, take}
use Rattle.std.proofs.Math.Bool.{and-eq-true_iff}
use Rattle.std.proofs.Common.{ltb-true}
use Rattle.finite.specs.Finite.{tab, collect}
use Rattle.model.specs.Cell as Model-cell
use Rattle.model.specs.Cell.{blank}
use Rattle.model.specs.Scheme as Model
use Rattle.model.specs.Database.{Database}
use Rattle.model.specs.Ranges as Model-range
use Rattle.model.specs.Holding.{desks, most_ranges, Pair, Owned, Holding, holding, ranges_of}
use Rattle.model.specs.Query as Model-query
use Rattle.model.specs.Runs as Runs
use Rattle.model.specs.Runs.{Cache}
use Rattle.model.specs.Answers as Answers
use Rattle.state.specs.declared.cell.Cell.{Cell}
use Rattle.state.specs.declared.design.Column.{Column}
use Rattle.state.specs.declared.design.Constraint.{Constraint}
use Rattle.state.specs.declared.design.Filling.{Filling}
use Rattle.state.specs.declared.design.Design.{Design}
use Rattle.state.specs.declared.held.HeldValue.{HeldValue}
use Rattle.state.specs.declared.held.OwnedValue.{OwnedValue}
use Rattle.state.specs.declared.held.Range.{Range}
use Rattle.state.specs.declared.held.DeskRanges.{DeskRanges}
use Rattle.state.specs.declared.held.Held.{Held}
use Rattle.state.specs.declared.answer.Answer.{Answer}
use Rattle.state.specs.declared.answer.Answer.TheVariants as A
use Rattle.state.specs.declared.answer.Shown.{Shown}
use Rattle.state.specs.declared.operation.Join.{Join}
use Rattle.state.specs.declared.operation.Query.{Query}
use Rattle.state.specs.declared.operation.Operation.{Operation}
use Rattle.state.specs.declared.operation.Operation.TheVariants as O
use Rattle.state.specs.Cells.{Cells}
use Rattle.state.specs.Design.{table_at, constraint_at, filling_at}
use Rattle.state.specs.Held.{no_value, no_range, held_at, range_at, ranges_at}

-- ---- cells

abbrev pub cell_of : Cell → Model-cell.Cell
cell_of a = record { number = a.number; issue = a.issue }

-- the cell that stands for this one
abbrev pub cell_back : Model-cell.Cell → Cell
cell_back a = record { number = a.number; issue = a.issue }

-- cell number x of the lent cells
abbrev pub cell_in : Cells → ℕ → Cell
cell_in cells x = record { number = get_or cells.numbers x 0; issue = get_or cells.issues x 0 }

-- column c of row r, whose cells begin at cell 8 times r
abbrev pub cell_at : Cells → ℕ → ℕ → Cell
cell_at cells r c = cell_in cells (8 * r + c)

-- ---- the design

abbrev pub column_of : Column → Model.Column
column_of k = record { table = k.table; place = k.place }

abbrev pub constraint_of : Constraint → Model.Constraint
constraint_of c = record { source = column_of c.source; target = column_of c.target }

abbrev pub filling_of : Filling → Model.Filling
filling_of f = record { column = column_of f.column; low = f.low; high = f.high }

-- "bit i for column i"
unfoldable pub bit : ℕ → ℕ → Bool
bit u i = eqb (u / 2 ^ i % 2) 1

unfoldable pub scheme_of : Design → Model.Scheme
scheme_of d =
    record {
      tables = d.tables;
      columns = λ t. (table_at d t).columns;
      unique = λ k. bit (table_at d k.table).unique k.place;
      constraints = d.constraints;
      constraint = λ i. constraint_of (constraint_at d i);
      fillings = d.fillings;
      filling = λ f. filling_of (filling_at d f);
    }

-- ---- the rows

-- "a free number has row table 255" (02, Req 12)
abbrev pub free_table : ℕ
free_table = 255

-- the numbers that aren't free have a row
unfoldable pub database_of : Cells → List ℕ → Database
database_of cells tables =
    record {
      size = 512;
      live = λ r. ltb r 512 && not (eqb (get_or tables r 0) free_table);
      table = λ r. get_or tables r 0;
      cell = λ r c. cond (ltb c 8) (cell_of (cell_at cells r c)) blank;
      finite = λ r e. ltb-true r 512 ((and-eq-true_iff (ltb r 512) (not (eqb (get_or tables r 0) free_table))).0 e).0;
    }

-- ---- what is held and cached

abbrev pub pair_of : HeldValue → Pair
pair_of v = record { filling = v.filling; value = cell_of v.value }

-- the held value that stands for a pair
abbrev pub pair_back : Pair → HeldValue
pair_back p = record { filling = p.filling; value = cell_back p.value }

abbrev pub owned_of : OwnedValue → Owned
owned_of v = record { desk = v.desk; pair = pair_of v.pair }

abbrev pub owned_back : Owned → OwnedValue
owned_back o = record { desk = o.desk; pair = pair_back o.pair }

unfoldable pub values_of : Held → List Owned
values_of h = tab h.count (λ i. owned_of (held_at h i))

abbrev pub range_of : Range → Model-range.Range
range_of r = record { filling = r.filling; low = r.low; high = r.high }

abbrev pub range_back : Model-range.Range → Range
range_back r = record { filling = r.filling; low = r.low; high = r.high }

-- a desk's ranges as a list, and those that stand for a list, unused places 0
unfoldable pub list_of : DeskRanges → List Model-range.Range
list_of s = tab s.count (λ i. range_of (range_at s i))

unfoldable pub list_back : List Model-range.Range → DeskRanges
list_back rs = record { count = length rs; list = tab most_ranges (λ i. range_back (get_or rs i (range_of no_range))) }

-- one list for each desk
unfoldable pub lists_of : Held → List (List Model-range.Range)
lists_of h = tab desks (λ e. list_of (ranges_at h e))

-- what the record holds
abbrev pub holding_of : Held → Holding
holding_of h = holding h.desk (values_of h) (lists_of h)

-- the record that holds this, unused places 0
unfoldable pub held_of : Holding → Held
held_of h =
    record {
      desk = h.desk;
      count = length h.values;
      values = tab 64 (λ i. owned_back (get_or h.values i (owned_of no_value)));
      ranges = tab desks (λ e. list_back (ranges_of h.ranges e));
    }

abbrev pub cache_of : Held → List ℕ → Cache
cache_of h marks = record { held = holding_of h; marks = take 512 marks }

-- ---- operations, with `room` answer words and `bytes` bytes of text lent

abbrev pub join_of : Join → Model-query.Join
join_of j = record { position = j.position; constraint = j.constraint }

abbrev pub query_of : Query → Model-query.Query
query_of q =
    record {
      column = column_of q.column;
      value = cell_of q.value;
      joins = q.joins;
      pairs = join_of q.first ∷ join_of q.second ∷ join_of q.third ∷ join_of q.fourth ∷ [];
    }

abbrev pub operation_of : Operation → ℕ → ℕ → Runs.Operation
operation_of (O.Refer v) room bytes = Runs.refer (pair_of v)
operation_of (O.Drop v) room bytes = Runs.drop (pair_of v)
operation_of (O.Probe k v) room bytes = Runs.ask (Runs.probe (column_of k) (cell_of v))
operation_of (O.Query q) room bytes = Runs.query (query_of q) (Runs.as_lists room)
operation_of O.Evenness room bytes = Runs.ask Runs.evenness
operation_of O.SmallestKnot room bytes = Runs.ask Runs.smallest_knot
operation_of (O.Total t) room bytes = Runs.query (query_of t.query) (Runs.as_total t.position t.column)
operation_of (O.Name d) room bytes = Runs.name d
operation_of (O.Opener k v) room bytes = Runs.ask (Runs.opener (column_of k) (cell_of v))
operation_of (O.Reason r) room bytes = Runs.ask (Runs.reason r bytes)
operation_of (O.ReferRange r) room bytes = Runs.refer_range (range_of r)
operation_of (O.DropRange r) room bytes = Runs.drop_range (range_of r)

-- ---- sets of constraints

-- the members of a mask, rising: constraint 0 has the highest of sixteen bits
abbrev pub mask_members : ℕ → List ℕ
mask_members mask = collect 16 (λ e. bit mask (15 - e)) (λ e. e ∷ [])

-- ---- answers: document 01's word, number and values for each case

abbrev pub answer_of : Answer → Answers.Answer
answer_of (A.Loaded rows rounds) = Answers.loaded rows rounds
answer_of A.Held = Answers.held
answer_of A.NoCandidate = Answers.no_candidate
answer_of (A.Dropped rows) = Answers.dropped rows
answer_of (A.Ground g rows) = Answers.ground g rows
answer_of A.Sent = Answers.sent
answer_of (A.Lists n) = Answers.lists n
answer_of (A.Refused n) = Answers.refused n
answer_of A.Even = Answers.even
answer_of (A.Uneven i j) = Answers.uneven i j
answer_of (A.Total n) = Answers.total n
answer_of (A.Knot mask) = Answers.knot (mask_members mask)
answer_of (A.Named d) = Answers.named d
answer_of A.Open = Answers.opened
answer_of (A.OpenedBy f n i) = Answers.opened_by f n i
answer_of A.NoOpener = Answers.no_opener
answer_of A.Absent = Answers.absent
answer_of (A.Explained n) = Answers.explained n
answer_of (A.Changed came went) = Answers.changed came went

-- an array of sixteen numbers, 0 behind the last
abbrev pub sixteen : List ℕ → List ℕ
sixteen ns = tab 16 (λ i. get_or ns i 0)

-- the value that shows a word with its numbers, of which an answer has at most sixteen
abbrev pub shown_of : Answers.Shown → Shown
shown_of s = record { word = s.word; count = length s.numbers; numbers = sixteen s.numbers }
