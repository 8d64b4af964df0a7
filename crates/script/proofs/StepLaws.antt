-- Operations on a sound state, which leave the model's cache; and steps on whatever is lent, case by case: a step leaves a sound state sound, and one that goes
-- on moves behind its command. Assumes nothing.
use Prim.Native.Nat.{ℕ, ◌+◌, ◌≤◌, ◌<◌}
use native.Mathlib.Omega.{arith}
use mathlib.Core.Path.{◌≡◌, refl, ap, ◌∙◌}
use mathlib.Core.Bool.{Bool, true, false, not, cond}
use mathlib.Core.List.{List}
use mathlib.Core.Logic.{⊎_elim}
use borrow.Author.Tests.{le-ltb, lt-ltb}
use lib.Dec.{ltb}
use lib.ListN.{length, take, drop as past}
use lib.Seq.{take_at, drop_at}
use Rattle.finite.proofs.Bools.{both, clash, cond-true, cond-false}
use Rattle.model.specs.Runs as Runs
use Rattle.model.proofs.Fresh.{step-fresh}
use Rattle.state.specs.declared.operation.Operation.{Operation}
use Rattle.state.specs.Meaning.{holding_of}
use Rattle.state.specs.Changes.{Change, put, remove, row_of}
use Rattle.state.specs.Lent.{State, scheme, database, cache, long_enough, lawful, sound, cause_at, state_after}
use Rattle.lawful.proofs.HeldLaws.{holding-back}
use Rattle.lawful.proofs.SoundState.{sound-fresh, fresh-long, after, after-fit, held-after, marks-after, sound-after}
use Rattle.lawful.proofs.StoredLaws.{RowSized, free-sized}
use Rattle.lawful.proofs.SoundChange.{sound-changed}
use Rattle.command.specs.declared.command.Command.{Command}
use Rattle.command.specs.declared.command.Command.TheVariants.{Table, Constraint, Filling, Row, End, Operate, Put, Remove, Unknown, Short}
use Rattle.command.specs.Bytes.{byte_at}
use Rattle.command.specs.Commands.{command_at, width_of, put_row_at}
use Rattle.format.specs.Reading.{most_bytes}
use Rattle.format.proofs.ReadingLaws.{Whole}
use Rattle.script.specs.Step.{Outputs, rooms_of, operation_in, Stepped, refusing, operated, changing, carried, step_at}
use Rattle.guard.proofs.CausesFirst.{caused, uncaused}
use Rattle.script.proofs.Places.{command-kinds, put-sized}

-- ---- an operation

module _ (s : State) (e : sound s ≡ true) (o : Runs.Operation) where
  long : length (after s o).marks ≡ 512
  long = fresh-long s.design s.cells s.tables (after s o) (step-fresh (scheme s) (database s) (cache s) o (sound-fresh s e))

  after-holding : holding_of (state_after s o).held ≡ (after s o).held
  after-holding = ap holding_of (held-after s e o) ∙ holding-back (after s o).held (after-fit s e o)

  -- the cache that it leaves is the model's
  pub after-cache : cache (state_after s o) ≡ after s o
  after-cache =
      λ i. record { held = after-holding i; marks = (ap (take 512) (marks-after s e o) ∙ take_at (after s o).marks (past 512 s.marks) 512 long) i }

  -- the marks past 512 are untouched
  pub after-past : past 512 (state_after s o).marks ≡ past 512 s.marks
  after-past = ap (past 512) (marks-after s e o) ∙ drop_at (after s o).marks (past 512 s.marks) 512 long

-- ---- a step

module _ (s : State) (out : Outputs) (script : List ℕ) (i : ℕ) where
  -- the command at the place, carried out
  abbrev pub commanded : Stepped
  commanded = carried s out script i (i + width_of (byte_at script i)) (command_at script i)

  -- what holds of every refusal that stops the reading, and of the command carried out on a sound state, holds of the step
  pub step_by : (P : Stepped → Type 0) → ((n : ℕ) → P (refusing s out n 0 i false)) → (sound s ≡ true → P commanded) → P (step_at s out script i)
  unfolding step_at
  step_by P r c = go (long_enough s) (lawful s) (ltb most_bytes (length script)) (λ a b. c (both a b))
    where
      step : (a b c : Bool) → Stepped
      step a b c =
          cond (not a) (refusing s out 7 0 i false) (cond (not b) (refusing s out 12 0 i false) (cond c (refusing s out 4 0 i false) commanded))

      go : (a b c : Bool) → (a ≡ true → b ≡ true → P commanded) → P (step a b c)
      go false b c h = r 7
      go true false c h = r 12
      go true true true h = r 4
      go true true false h = h refl refl

  -- causes 7 and 12
  pub step-caused : (cause_at s ≡ 0 → ⊥) → step_at s out script i ≡ refusing s out (cause_at s) 0 i false
  unfolding step_at
  step-caused = caused s (λ n. refusing s out n 0 i false) _

  pub step-overlong : sound s ≡ true → most_bytes < length script → step_at s out script i ≡ refusing s out 4 0 i false
  unfolding step_at
  step-overlong e l =
      uncaused s (λ n. refusing s out n 0 i false) _ e ∙ cond-true (ltb most_bytes (length script)) _ _ (lt-ltb most_bytes (length script) l)

  -- on a sound state, in a script that is not over-long, the command is carried out
  pub step-carried : sound s ≡ true → length script ≤ most_bytes → step_at s out script i ≡ commanded
  unfolding step_at
  step-carried e l =
      uncaused s (λ n. refusing s out n 0 i false) _ e ∙ cond-false (ltb most_bytes (length script)) _ _ (le-ltb most_bytes (length script) l)

  -- what holds of every operation, of every change of the rows by a row that has its cells, of the refusals behind which reading goes on and of those that stop it, holds of every command
  pub carried-by : (j : ℕ) (P : Stepped → Type 0) → ((op : Operation) → P (operated s out op i j)) →
      ((x : Change) → RowSized (row_of x) → P (changing s out x i j)) → ((n : ℕ) → P (refusing s out n i j true)) → ((n place : ℕ) → P (refusing s out n place i false)) →
      (c : Command) → P (carried s out script i j c)
  unfolding carried
  carried-by j P o x r e (Operate op) = o op
  carried-by j P o x r e (Put n t) = x (put n (put_row_at script i)) (put-sized script i)
  carried-by j P o x r e (Remove n) = x (remove n) free-sized
  carried-by j P o x r e (Table t) = r 3
  carried-by j P o x r e (Constraint c) = r 3
  carried-by j P o x r e (Filling f) = r 3
  carried-by j P o x r e (Row t) = r 3
  carried-by j P o x r e End = r 3
  carried-by j P o x r e Unknown = e 2 i
  carried-by j P o x r e Short = e 1 _

  -- ---- what a step leaves

  -- THEOREM: a step on a sound state leaves a sound one
  pub step-sound : sound s ≡ true → sound (step_at s out script i).state ≡ true
  unfolding operated changing
  step-sound e =
      step_by (λ (r : Stepped). sound r.state ≡ true) (λ n. e)
      (λ _. carried-by _ (λ (r : Stepped). sound r.state ≡ true) (λ op. sound-after s e (operation_in op (rooms_of out))) (λ x z. sound-changed s x e z) (λ n. e)
      (λ n place. e) (command_at script i))

  -- ---- where it goes on

  -- reading goes on only behind the command
  carried-next : (j : ℕ) (c : Command) → (carried s out script i j c).more ≡ true → (carried s out script i j c).next ≡ j
  unfolding operated changing
  carried-next j c =
      carried-by j (λ (r : Stepped). r.more ≡ true → r.next ≡ j) (λ op h. refl) (λ x z h. refl) (λ n h. refl) (λ n place h. clash h refl) c

  -- and inside the script
  abbrev Moves : Stepped → Type 0
  Moves r = (i < r.next) × (r.next ≤ length script)

  carried-on : commanded.more ≡ true → Moves commanded
  unfolding carried
  carried-on h =
      let j = i + width_of (byte_at script i) in
      ⊎_elim (λ (x : command_at script i ≡ Short). clash h (ap (λ (d : Command). (carried s out script i j d).more) x))
      (⊎_elim (λ (x : command_at script i ≡ Unknown). clash h (ap (λ (d : Command). (carried s out script i j d).more) x))
      (λ (w : Whole script i). let n = carried-next j (command_at script i) h in (omega (arith, w.some, n), omega (arith, w.fits, n))))
      (command-kinds script i)

  pub step-on : (step_at s out script i).more ≡ true → Moves (step_at s out script i)
  step-on = step_by (λ (r : Stepped). r.more ≡ true → Moves r) (λ n h. clash h refl) (λ _. carried-on)
