-- What a step, and all steps from a place on, leave of a sound state: what the actions that stand in the script leave. Assumes nothing.
use Prim.Native.Nat.{ℕ, zero, suc, ◌+◌, ◌<◌, ◌≤◌}
use mathlib.Core.Path.{◌≡◌, refl, sym, ap, ◌∙◌}
use mathlib.Core.Bool.{Bool, true, false, cond}
use mathlib.Core.List.{List, []}
use mathlib.Core.Logic.{⊎_elim}
use borrow.Author.Tests.{leb-true, leb-false, ltb-true, ltb-false}
use lib.Dec.{ltb, leb}
use lib.ListN.{length}
use Rattle.finite.proofs.Bools.{dec, cond-true, cond-false}
use Rattle.state.specs.declared.operation.Operation as Command-operation
use Rattle.state.specs.Lent.{State, sound}
use Rattle.state.specs.Changes.{put, remove}
use Rattle.lawful.proofs.SoundState.{sound-after}
use Rattle.lawful.proofs.SoundChange.{sound-changed}
use Rattle.lawful.proofs.StoredLaws.{free-sized}
use Rattle.command.specs.declared.command.Command.{Command}
use Rattle.command.specs.declared.command.Command.TheVariants.{Table, Constraint, Filling, Row, End, Operate, Put, Remove, Unknown, Short}
use Rattle.command.specs.Bytes.{byte_at}
use Rattle.command.specs.Commands.{command_at, width_of, put_row_at}
use Rattle.format.specs.Reading.{most_bytes}
use Rattle.command.proofs.CommandLaws.{at-end}
use Rattle.script.specs.Step.{Outputs, Rooms, rooms_of, operation_in, Stepped, operated, changing, carried, step_at}
use Rattle.run.specs.Runs.{action_then, actions_from, Left, leaving, left_from}
use Rattle.script.proofs.Places.{put-sized}
use Rattle.script.proofs.StepLaws.{step-carried, step-overlong}
use Rattle.run.proofs.RunLaws.{left_then, left-past, left_step, rooms-after}
use Rattle.demands.specs.Actions.{state_behind, state_after_all, actions_of_step, actions_of_run}

-- behind one command
command-leaves : (s : State) (out : Outputs) (script : List ℕ) (i j : ℕ) (c : Command) →
    (carried s out script i j c).state ≡ state_after_all s (action_then script i c (rooms_of out) [])
unfolding carried operated changing state_after_all state_behind
command-leaves s out script i j (Operate op) = refl
command-leaves s out script i j (Put r t) = refl
command-leaves s out script i j (Remove r) = refl
command-leaves s out script i j (Table t) = refl
command-leaves s out script i j (Constraint d) = refl
command-leaves s out script i j (Filling f) = refl
command-leaves s out script i j (Row t) = refl
command-leaves s out script i j End = refl
command-leaves s out script i j Unknown = refl
command-leaves s out script i j Short = refl

-- an operation that stands at a place of a script that is not over-long, on a sound state
pub operate-step : (e : State) (out : Outputs) (script : List ℕ) (j : ℕ) (op : Command-operation.Operation) → sound e ≡ true → length script ≤ most_bytes →
    command_at script j ≡ Operate op → step_at e out script j ≡ operated e out op j (j + width_of (byte_at script j))
unfolding carried
operate-step e out script j op s l c =
    step-carried e out script j s l ∙ ap (λ (d : Command). carried e out script j (j + width_of (byte_at script j)) d) c

-- THEOREM: on a sound state, a step leaves what the action at its place leaves; an over-long script leaves the state as it was
pub step-leaves : (s : State) (out : Outputs) (script : List ℕ) (i : ℕ) → sound s ≡ true → (step_at s out script i).state ≡ state_after_all s (actions_of_step script (rooms_of out) i)
unfolding actions_of_step state_after_all
step-leaves s out script i e =
    ⊎_elim (λ (q : ltb most_bytes (length script) ≡ true).
    ap (λ (r : Stepped). r.state) (step-overlong s out script i e (ltb-true _ _ q)) ∙ ap (state_after_all s) (sym (cond-true (ltb most_bytes (length script)) [] _ q)))
    (λ (q : ltb most_bytes (length script) ≡ false).
    ap (λ (r : Stepped). r.state) (step-carried s out script i e (ltb-false _ _ q)) ∙
    command-leaves s out script i _ (command_at script i) ∙
    ap (state_after_all s) (sym (cond-false (ltb most_bytes (length script)) [] _ q)))
    (dec (ltb most_bytes (length script)))

-- the steps of an over-long script leave the state as it was
either : (e : State) (a : Bool) (x y : Left) → x.state ≡ e → y.state ≡ e → (cond a x y).state ≡ e
either e true x y f g = f
either e false x y f g = g

pub long-run : (e : State) → sound e ≡ true → (out : Outputs) (script : List ℕ) (i : ℕ) → most_bytes < length script → (n : ℕ) → (left_from n script e out i).state ≡ e
unfolding left_from
long-run e s out script i l zero = refl
long-run e s out script i l (suc n) =
    either e (leb (length script) i) (leaving e out) (left_then n script (step_at e out script i)) refl
    (ap (λ (r : Stepped). (left_then n script r).state) (step-overlong e out script i s l))

module _ (script : List ℕ) where
  then-leaves : (n i j : ℕ) (s : State) (out : Outputs) →
      ((l : State) (w : Outputs) → sound l ≡ true → rooms_of w ≡ rooms_of out → (left_from n script l w j).state ≡ state_after_all l (actions_from n script (rooms_of out) j)) →
      sound s ≡ true → (c : Command) →
      (left_then n script (carried s out script i j c)).state ≡ state_after_all s (action_then script i c (rooms_of out) (actions_from n script (rooms_of out) j))
  unfolding carried operated changing state_after_all state_behind
  then-leaves n i j s out h e (Operate op) = let o = operation_in op (rooms_of out) in h _ _ (sound-after s e o) (rooms-after s o out)
  then-leaves n i j s out h e (Put r t) = h _ out (sound-changed s (put r (put_row_at script i)) e (put-sized script i)) refl
  then-leaves n i j s out h e (Remove r) = h _ out (sound-changed s (remove r) e free-sized) refl
  then-leaves n i j s out h e (Table t) = h s out e refl
  then-leaves n i j s out h e (Constraint t) = h s out e refl
  then-leaves n i j s out h e (Filling t) = h s out e refl
  then-leaves n i j s out h e (Row t) = h s out e refl
  then-leaves n i j s out h e End = h s out e refl
  then-leaves n i j s out h e Unknown = refl
  then-leaves n i j s out h e Short = refl

  left-leaves : length script ≤ most_bytes → (n : ℕ) (s : State) (out : Outputs) (i : ℕ) → sound s ≡ true →
      (left_from n script s out i).state ≡ state_after_all s (actions_from n script (rooms_of out) i)
  unfolding left_from actions_from state_after_all
  left-leaves short zero s out i e = refl
  left-leaves short (suc n) s out i e =
      let j = i + width_of (byte_at script i) in
      ⊎_elim (λ (q : leb (length script) i ≡ true). let l = leb-true (length script) i q in
      ap (λ (x : Left). x.state) (left-past script s out i (suc n) l) ∙
      ap (λ (c : Command). state_after_all s (action_then script i c (rooms_of out) (actions_from n script (rooms_of out) j))) (at-end script i l))
      (λ (q : leb (length script) i ≡ false).
      ap (λ (x : Left). x.state) (left_step script s out i n (leb-false _ _ q) ∙ ap (left_then n script) (step-carried s out script i e short)) ∙
      then-leaves n i j s out
      (λ l w f r. left-leaves short n l w j f ∙ ap (λ (rooms : Rooms). state_after_all l (actions_from n script rooms j)) r) e (command_at script i))
      (dec (leb (length script) i))

-- THEOREM: the same of all steps from a place on
pub run-leaves : (s : State) (out : Outputs) (script : List ℕ) (i : ℕ) → sound s ≡ true →
    (left_from (length script) script s out i).state ≡ state_after_all s (actions_of_run script (rooms_of out) i)
unfolding actions_of_run state_after_all
run-leaves s out script i e =
    ⊎_elim (λ (q : ltb most_bytes (length script) ≡ true).
    long-run s e out script i (ltb-true _ _ q) (length script) ∙ ap (state_after_all s) (sym (cond-true (ltb most_bytes (length script)) [] _ q)))
    (λ (q : ltb most_bytes (length script) ≡ false).
    left-leaves script (ltb-false _ _ q) (length script) s out i e ∙
    ap (state_after_all s) (sym (cond-false (ltb most_bytes (length script)) [] _ q)))
    (dec (ltb most_bytes (length script)))
