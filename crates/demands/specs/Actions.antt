-- Any list of actions, called one after the other on a design just read, and demand 3 at every point of a run (01, "Runs": "Demand 3 is one statement about the whole
-- list, not one for each call"; 02, Req 12: "What must hold at every point of a run is judged on the tables of that moment"). Assumes nothing.
use Rattle.std.specs.Prelude.{ℕ, cond, List, [], ◌∷◌, ltb, length}
use Rattle.state.specs.Lent.{State, state_after}
use Rattle.state.specs.Changes.{state_changed}
use Rattle.command.specs.Commands.{command_at}
use Rattle.format.specs.Reading.{Draft, most_bytes}
use Rattle.format.specs.Reading.DesignRead.{accepted}
use Rattle.run.specs.Moments.{Action, operation, change}
use Rattle.script.specs.Step.{Rooms}
use Rattle.run.specs.Runs.{action_then, actions_at, left_from, rooms_in, moment_with, moment_at, Point}
use Rattle.script.specs.JustRead.{Buffers, just_read}

-- the state behind an action, and behind a list of them, each called on the state that the one before left, a refused one too
unfoldable pub state_behind : State → Action → State
state_behind s (operation o) = state_after s o
state_behind s (change x) = state_changed s x

unfoldable pub state_after_all : State → List Action → State
state_after_all s [] = s
state_after_all s (a ∷ more) = state_after_all (state_behind s a) more

-- what one step at place i of a script does, and all steps from there on: an operation, a change of the rows, or nothing. An over-long script does nothing
unfoldable pub actions_of_step : List ℕ → Rooms → ℕ → List Action
actions_of_step script rooms i = cond (ltb most_bytes (length script)) [] (action_then script i (command_at script i) rooms [])

unfoldable pub actions_of_run : List ℕ → Rooms → ℕ → List Action
actions_of_run script rooms i = cond (ltb most_bytes (length script)) [] (actions_at script rooms i)

-- DEMAND 3, of any list of actions, called on the design p just read into the buffers b: e is the state that they leave
abbrev pub Called : Draft → Buffers → List Action → State → Type 0
Called p b acts e = Point p b (moment_with p acts) e

-- DEMAND 3, at every point: behind the first n commands, for every n
pub record Points (script : List ℕ) (p : Draft) (i : ℕ) (b : Buffers) : Type 0 where
  pub point : (n : ℕ) → Point p b (moment_at n script p (rooms_in b) i) (left_from n script (just_read (accepted p i) b) b.outputs i).state
