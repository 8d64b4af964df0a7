-- Demand 3 of any list of calls on a design just read, and of every point of a script's run. Assumes nothing.
use Prim.Native.Nat.{ℕ}
use mathlib.Core.Path.{◌≡◌, refl, ap}
use mathlib.Core.Bool.{true}
use mathlib.Core.List.{List, [], ◌∷◌, ◌++◌}
use Rattle.state.specs.Meaning.{scheme_of}
use Rattle.state.specs.Lent.{State, sound}
use Rattle.state.specs.Changes.{Change}
use Rattle.lawful.proofs.RowsLaws.{Stored}
use Rattle.format.specs.Reading.{Draft, cells_after}
use Rattle.format.specs.Reading.DesignRead.{accepted}
use Rattle.format.proofs.Small.{Small}
use Rattle.run.specs.Moments.{Action, operation, change, Moment, moment_after, moment_from}
use Rattle.run.specs.Runs.{left_from, rooms_in, beginning, moment_with, moment_at}
use Rattle.script.specs.JustRead.{Buffers, reading_of, just_read}
use Rattle.run.proofs.Tracking.{Tracks, point, RowGiven, operated-tracks, changed-tracks}
use Rattle.run.proofs.Begun.{begun}
use Rattle.run.proofs.WholeRun.{part}
use Rattle.demands.specs.Actions.{state_behind, state_after_all, Called, Points}

-- the rows that a list of actions puts in are rows
pub record RowsGiven (acts : List Action) : Type 0 where
  pub each : (earlier later : List Action) (x : Change) → acts ≡ earlier ++ (change x ∷ later) → RowGiven x

given-rest : (a : Action) (more : List Action) → RowsGiven (a ∷ more) → RowsGiven more
given-rest a more g = record { each = λ earlier later x e. g.each (a ∷ earlier) later x (ap (λ (l : List Action). a ∷ l) e) }

calls-track : (p : Draft) (b : Buffers) (m : Moment) (e : State) → Tracks p b m e → (acts : List Action) → RowsGiven acts →
    Tracks p b (moment_from (scheme_of p.design) m acts) (state_after_all e acts)
unfolding moment_from state_after_all state_behind
calls-track p b m e t [] g = t
calls-track p b m e t (operation o ∷ more) g = calls-track p b (moment_after (scheme_of p.design) m (operation o)) _ (operated-tracks p b m e t o) more (given-rest (operation o) more g)
calls-track p b m e t (change x ∷ more) g = calls-track p b (moment_after (scheme_of p.design) m (change x)) _ (changed-tracks p b m e t x (g.each [] more x refl)) more (given-rest (change x) more g)

-- A design just read. A script is bytes, a number is below 2 ^ 32 and an issue below 2 ^ 8, as their types say.
module _ (script : List ℕ) (small : Small script) (b : Buffers) (p : Draft) (i : ℕ) (e : reading_of script b ≡ accepted p i)
    (stored : Stored (cells_after (accepted p i) b.cells)) where
  pub called : (acts : List Action) → RowsGiven acts → Tracks p b (moment_with p acts) (state_after_all (just_read (accepted p i) b) acts)
  called acts g = calls-track p b (beginning p) (just_read (accepted p i) b) (begun script small b p i e stored) acts g

  -- THEOREM. Demand 3 of what any list of calls leaves
  pub calls-hold : (acts : List Action) → RowsGiven acts → Called p b acts (state_after_all (just_read (accepted p i) b) acts)
  calls-hold acts g = point p b (moment_with p acts) (state_after_all (just_read (accepted p i) b) acts) (called acts g)

  -- THEOREM. Demand 3 at every point of a script's run, behind the first n commands
  pub points-hold : Points script p i b
  points-hold = record { point = λ n. point p b (moment_at n script p (rooms_in b) i) (left_from n script (just_read (accepted p i) b) b.outputs i).state (part script small b p i e stored n) }

  -- THEOREM. So the states of a run are sound, with u32 numbers and u8 issues: what this crate proves of a sound state it proves of these
  pub calls-sound : (acts : List Action) → RowsGiven acts →
      (sound (state_after_all (just_read (accepted p i) b) acts) ≡ true) × Stored (state_after_all (just_read (accepted p i) b) acts).cells
  calls-sound acts g = let t = called acts g in (t.sound, t.stored)

  pub points-sound : (n : ℕ) →
      (sound (left_from n script (just_read (accepted p i) b) b.outputs i).state ≡ true) × Stored (left_from n script (just_read (accepted p i) b) b.outputs i).state.cells
  points-sound n = let t = part script small b p i e stored n in (t.sound, t.stored)
