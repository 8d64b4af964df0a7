-- A whole script: what the commands behind its END do, found from the bytes alone; the steps one after the other, each on the state that the one
-- before left; and what a run of all of it gives and leaves (demand 3). Assumes nothing.
use Rattle.std.specs.Prelude.{ℕ, zero, suc, ◌+◌, ◌≡◌, ◌↔◌, true, false, cond, List, [], ◌∷◌, ◌++◌, leb, length, take, drop as past}
use Rattle.model.specs.Cell.{Cell, numberless}
use Rattle.model.specs.Scheme.{Column, ColumnOf}
use Rattle.model.specs.Database.{Database}
use Rattle.model.specs.Cache.{RowSet, Complete, Alike}
use Rattle.model.specs.Holding.{nothing_held, held_in}
use Rattle.model.specs.Runs.{ask, probe, marks, marked}
use Rattle.model.specs.Answers.{Answer, refused, Yes}
use Rattle.model.specs.Demand.{Demand3}
use Rattle.state.specs.declared.held.Held.{Held}
use Rattle.state.specs.Meaning.{scheme_of, held_of}
use Rattle.state.specs.HeldWords.{words_held, Whole}
use Rattle.state.specs.Lent.{State, lent, sound, answer_at}
use Rattle.state.specs.Changes.{put, remove, rows_in}
use Rattle.command.specs.declared.command.Command.{Command}
use Rattle.command.specs.declared.command.Command.TheVariants.{Table, Constraint, Filling, Row, End, Operate, Put, Remove, Unknown, Short}
use Rattle.command.specs.Bytes.{byte_at}
use Rattle.command.specs.Commands.{command_at, width_of, put_row_at}
use Rattle.format.specs.Reading.{Draft, verdict_of, design_of}
use Rattle.format.specs.Reading.DesignRead.{accepted, refused_at}
use Rattle.run.specs.declared.outcome.Run.{Run}
use Rattle.run.specs.Moments.{Action, operation, change, Moment, tables_at, moment_from}
use Rattle.script.specs.Step.{Outputs, Rooms, rooms_of, operation_in, step_at}
use Rattle.script.specs.JustRead.{Buffers, reading_of, just_read, longer, past_cells}

-- what a run does by the commands that stand in a script from place i on, where so many answer words and bytes of text are lent: c is the command at place i,
-- and `rest` is what those behind it do. Design commands do nothing; behind 1 or 2 there is no command
abbrev pub action_then : List ℕ → ℕ → Command → Rooms → List Action → List Action
action_then script i (Operate op) rooms rest = operation (operation_in op rooms) ∷ rest
action_then script i (Put r t) rooms rest = change (put r (put_row_at script i)) ∷ rest
action_then script i (Remove r) rooms rest = change (remove r) ∷ rest
action_then script i (Table t) rooms rest = rest
action_then script i (Constraint c) rooms rest = rest
action_then script i (Filling f) rooms rest = rest
action_then script i (Row t) rooms rest = rest
action_then script i End rooms rest = rest
action_then script i Unknown rooms rest = []
action_then script i Short rooms rest = []

-- ... with n more commands at the most
unfoldable pub actions_from : ℕ → List ℕ → Rooms → ℕ → List Action
actions_from zero script rooms i = []
actions_from (suc n) script rooms i =
    action_then script i (command_at script i) rooms (actions_from n script rooms (i + width_of (byte_at script i)))

-- a command takes at least one byte
abbrev pub actions_at : List ℕ → Rooms → ℕ → List Action
actions_at script rooms i = actions_from (length script) script rooms i

-- what a run leaves: the state, and what is lent for answers
pub record Left : Type 0 where
  pub state : State
  pub outputs : Outputs

abbrev pub leaving : State → Outputs → Left
leaving s out = record { state = s; outputs = out }

-- the steps from place i on, with n more commands at the most
unfoldable pub left_from : ℕ → List ℕ → State → Outputs → ℕ → Left
left_from zero script s out i = leaving s out
left_from (suc n) script s out i =
    cond (leb (length script) i) (leaving s out)
    (let r = step_at s out script i in
    cond r.more (left_from n script r.state r.outputs r.next) (leaving r.state r.outputs))

-- ---- what a run gives and leaves

-- how many answer words and bytes of text are among them
abbrev pub rooms_in : Buffers → Rooms
rooms_in b = rooms_of b.outputs

-- the moment with which a run begins: the design's rows, and nothing held
abbrev pub beginning : Draft → Moment
beginning p = record { rows = rows_in p.cells p.tables; held = nothing_held }

-- the moment behind any list of actions on the design p just read
abbrev pub moment_with : Draft → List Action → Moment
moment_with p acts = moment_from (scheme_of p.design) (beginning p) acts

-- ... and behind the first n commands, and all, of a script whose design p has its END before place i, with so many answer words and bytes of text lent
abbrev pub moment_at : ℕ → List ℕ → Draft → Rooms → ℕ → Moment
moment_at n script p rooms i = moment_with p (actions_from n script rooms i)

abbrev pub moment_by : List ℕ → Draft → Rooms → ℕ → Moment
moment_by script p rooms i = moment_at (length script) script p rooms i

-- "its cached rows those with mark 1"
abbrev pub cached_by : Buffers → RowSet
cached_by b = marked (take 512 b.marks)

-- DEMAND 3, at one point of a run on the design p, which began with the buffers b: m is the moment, found from the design and the operands, and e the state
pub record Point (p : Draft) (b : Buffers) (m : Moment) (e : State) : Type 0 where
  -- the held values are the run's, in order
  pub held : e.held ≡ held_of m.held
  -- the rows are those of the moment; what lies past them is untouched
  pub cells : e.cells ≡ longer m.rows.cells (past_cells 4096 b.cells)
  pub tables : e.tables ≡ m.rows.tables ++ past 512 b.tables
  -- the first 512 marks are 1 on the cached rows and 0 on all other numbers; what lies past them is untouched
  pub marks : e.marks ≡ marks (tables_at m) (marked (take 512 e.marks)) ++ past 512 b.marks
  -- the cached rows are the smallest row set for what is held, and every probe says yes exactly when the value is complete in all databases alike
  pub demand3 : Demand3 (scheme_of p.design) (tables_at m) m.held (marked (take 512 e.marks))
  -- the design is as it was read, and what is left can be worked on: neither cause 7 nor 12 applies
  pub design : e.design ≡ p.design
  pub sound : sound e ≡ true

-- DEMAND 3, of all that the script has behind the END of its design p, at place i. The buffers are b before the run and a after it, and h is the record of held
-- values after it.
pub record Operated (script : List ℕ) (p : Draft) (i : ℕ) (b a : Buffers) (h : Held) : Type 0 where
  pub point : Point p b (moment_by script p (rooms_in b) i) (lent p.design a.cells a.tables a.marks h)
  -- the answer words and the text are those that the steps leave
  pub outputs : a.outputs ≡ (left_from (length script) script (just_read (accepted p i) b) b.outputs i).outputs

-- the value v in column k is complete in every lawful database from which the rows X would have been cached at the moment m
abbrev pub CompleteInAll : Draft → Moment → RowSet → Column → Cell → Type 0
CompleteInAll p m X k v =
    (E : Database) → Alike (scheme_of p.design) (tables_at m) (held_in (scheme_of p.design) m.held) X E → Complete E X k v

-- ---- what a whole run gives

-- a refused design leaves everything as it was, the words h of what is held too
pub record Untouched (b a : Buffers) (h h' : List ℕ) : Type 0 where
  pub held : h' ≡ h
  pub cells : a.cells ≡ b.cells
  pub tables : a.tables ≡ b.tables
  pub marks : a.marks ≡ b.marks
  pub outputs : a.outputs ≡ b.outputs

-- the words lent for what is held are h before, whatever stands there, and h' after
pub record Ran (script : List ℕ) (b a : Buffers) (h h' : List ℕ) (r : Run) : Type 0 where
  pub verdict : r.verdict ≡ verdict_of (reading_of script b)
  pub design : r.design ≡ design_of (reading_of script b)
  pub refused : (n i : ℕ) → reading_of script b ≡ refused_at n i → Untouched b a h h'
  -- what is held is lent as words of a record
  pub whole : (p : Draft) (i : ℕ) → reading_of script b ≡ accepted p i → Whole h'
  pub accepted : (p : Draft) (i : ℕ) → reading_of script b ≡ accepted p i → Operated script p i b a (words_held h')

-- ---- a probe behind a run

-- r is what the run gives, and the probe of the value v in column k changes nothing more
pub record ProbedAfter (script : List ℕ) (b a : Buffers) (h h' : List ℕ) (r : Run) (k : Column) (v : Cell) (x : Answer) : Type 0 where
  pub ran : Ran script b a h h' r
  -- the design is refused, with its cause
  pub refused : (n i : ℕ) → reading_of script b ≡ refused_at n i → x ≡ refused n
  -- the design is accepted: the probe's answer on the state that the run has left
  pub answer : (p : Draft) (i : ℕ) → reading_of script b ≡ accepted p i →
      x ≡ answer_at (lent p.design a.cells a.tables a.marks (words_held h')) (ask (probe k v))
  -- DEMAND 3, of the answer itself: a yes exactly when the value is complete in every lawful database from which the same rows would have been cached
  pub exact : (p : Draft) (i : ℕ) → reading_of script b ≡ accepted p i → ColumnOf (scheme_of p.design) k → numberless v ≡ false →
      Yes x ↔
      CompleteInAll p (moment_by script p (rooms_in b) i) (cached_by a) k v
