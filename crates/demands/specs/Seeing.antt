-- Columns where seeing a value is enough, of the program's answers (02, Req 13: "every value cached in that column has a ground of 1 or 2, at any point of any
-- run, rows that come and go and ranges included"). Assumes nothing.
use Rattle.std.specs.Prelude.{ℕ, ◌≡◌, true, List, ◌⊎◌, take}
use Rattle.model.specs.Cell.{Cell}
use Rattle.model.specs.Scheme.{Column}
use Rattle.model.specs.Database.{Database, Has}
use Rattle.model.specs.Runs.{ask, probe, marked}
use Rattle.model.specs.Answers.{ground}
use Rattle.model.specs.Seeing.{OneColumn}
use Rattle.state.specs.Meaning.{scheme_of}
use Rattle.state.specs.Lent.{State, answer_at}
use Rattle.format.specs.Reading.{Draft}
use Rattle.format.specs.Reading.DesignRead.{accepted}
use Rattle.run.specs.Moments.{Action, tables_at}
use Rattle.run.specs.Runs.{left_from, rooms_in, moment_with, moment_at}
use Rattle.script.specs.JustRead.{Buffers, just_read}
use Rattle.demands.specs.Actions.{state_after_all}

-- on the state e, a probe of v in column k answers ground 1 or 2, with a number of rows
abbrev pub LowGround : State → Column → Cell → Type 0
LowGround e k v = (n : ℕ) × ((answer_at e (ask (probe k v)) ≡ ground 1 n) ⊎ (answer_at e (ask (probe k v)) ≡ ground 2 n))

-- D are the tables: so does one of every value that a cached row has there
pub record SeenAnswered (D : Database) (e : State) (k : Column) : Type 0 where
  pub ground : (r : ℕ) (v : Cell) → marked (take 512 e.marks) r ≡ true → Has D k v r → LowGround e k v

-- behind any list of actions, called on the design p just read into the buffers b, with its END before place i
pub record CallsSeen (p : Draft) (i : ℕ) (b : Buffers) (acts : List Action) : Type 0 where
  pub seen : (k : Column) → OneColumn (scheme_of p.design) k → SeenAnswered (tables_at (moment_with p acts)) (state_after_all (just_read (accepted p i) b) acts) k

-- at every point of a script's run: behind the first n commands, for every n
pub record PointsSeen (script : List ℕ) (p : Draft) (i : ℕ) (b : Buffers) : Type 0 where
  pub seen : (n : ℕ) (k : Column) → OneColumn (scheme_of p.design) k →
      SeenAnswered (tables_at (moment_at n script p (rooms_in b) i)) (left_from n script (just_read (accepted p i) b) b.outputs i).state k
