-- How much a step takes, and what that says to a user: so much lent is enough, and with less the step is refused with cause 11. Assumes nothing.
use Prim.Native.Nat.{ℕ, ◌+◌, ◌≤◌, ◌<◌}
use native.Mathlib.Decide.{dec_lt}
use native.Mathlib.Omega.{arith}
use mathlib.Core.Path.{◌≡◌, refl, sym, ap, ◌∙◌}
use mathlib.Core.Logic.{◌⊎◌, inl, inr, ⊎_elim}
use mathlib.Core.Bool.{true}
use mathlib.Core.List.{List}
use lib.ListN.{length}
use Rattle.model.specs.Answers.{Answer, refused}
use Rattle.state.specs.declared.operation.Operation.{Operation}
use Rattle.state.specs.Meaning.{operation_of}
use Rattle.state.specs.Lent.{State, sound, answer_at}
use Rattle.command.specs.declared.command.Command.{Command}
use Rattle.command.specs.declared.command.Command.TheVariants.{Operate}
use Rattle.command.specs.Bytes.{byte_at}
use Rattle.command.specs.Commands.{command_at, width_of}
use Rattle.format.specs.Reading.{most_bytes}
use Rattle.sizes.specs.Sizes.{ample, words_taken, text_taken}
use Rattle.sizes.proofs.SizeLaws.{sizes-enough, sizes-needed}
use Rattle.script.specs.Step.{Outputs, rooms_of, operation_in, Stepped, operated, carried, step_at}
use Rattle.sizes.specs.StepSizes.{of_step, words_taken_at, text_taken_at}
use Rattle.script.proofs.StepLaws.{step-overlong, step-carried}
use Rattle.sizes.proofs.StepSizes.{Kind, operates, other, kind, overlong-takes, command-takes, operation-takes}

-- as much is lent as the step at place i takes, or more; or less
abbrev pub Enough : State → List ℕ → ℕ → Outputs → Type 0
Enough s script i out = (words_taken_at s script i ≤ length out.words) × (text_taken_at s script i ≤ length out.text)

abbrev pub TooLittle : State → List ℕ → ℕ → Outputs → Type 0
TooLittle s script i out = (length out.words < words_taken_at s script i) ⊎ (length out.text < text_taken_at s script i)

module _ (s : State) (e : sound s ≡ true) (script : List ℕ) (i : ℕ) where
  abbrev answer_on : Outputs → Answer
  answer_on out = (step_at s out script i).answer

  abbrev carried_on : Outputs → Command → Answer
  carried_on out c = (carried s out script i (i + width_of (byte_at script i)) c).answer

  overlong-answer : most_bytes < length script → (out : Outputs) → answer_on out ≡ refused 4
  overlong-answer l out = ap (λ (t : Stepped). t.answer) (step-overlong s out script i e l)

  module _ (l : length script ≤ most_bytes) where
    carried-answer : (out : Outputs) → answer_on out ≡ carried_on out (command_at script i)
    carried-answer out = ap (λ (t : Stepped). t.answer) (step-carried s out script i e l)

    -- the step is an operation
    module _ (op : Operation) (k : command_at script i ≡ Operate op) where
      operation-answer : (out : Outputs) → answer_on out ≡ answer_at s (operation_in op (rooms_of out))
      unfolding carried operated
      operation-answer out = carried-answer out ∙ ap (carried_on out) k

      words-is : words_taken_at s script i ≡ words_taken s op
      words-is = operation-takes (words_taken s) script i l (command_at script i) refl op k

      text-is : text_taken_at s script i ≡ text_taken s op
      text-is = operation-takes (text_taken s) script i l (command_at script i) refl op k

      ample-answer : (out : Outputs) → Enough s script i out → answer_on out ≡ answer_at s (operation_of op ample ample)
      ample-answer out a =
          operation-answer out ∙
          (sizes-enough s e op (length out.words) (length out.text) (omega (arith, words-is, a.0)) (omega (arith, text-is, a.1))).answer

      short-answer : (out : Outputs) → TooLittle s script i out → answer_on out ≡ refused 11
      short-answer out h =
          operation-answer out ∙
          sizes-needed s e op (length out.words) (length out.text) (⊎_elim (λ w. inl (omega (arith, words-is))) (λ t. inr (omega (arith, text-is))) h)

  -- THEOREM: whatever is lent, if it is enough, the answer is the same
  pub step-enough : (out out' : Outputs) → Enough s script i out → Enough s script i out' → answer_on out ≡ answer_on out'
  step-enough out out' a b = go (dec_lt most_bytes (length script))
    where
      by : length script ≤ most_bytes → Kind (command_at script i) → answer_on out ≡ answer_on out'
      by l (operates op k) = ample-answer l op k out a ∙ sym (ample-answer l op k out' b)
      by l (other x) = carried-answer l out ∙ x.same s script i (i + width_of (byte_at script i)) out out' ∙ sym (carried-answer l out')

      go : Dec (most_bytes < length script) → answer_on out ≡ answer_on out'
      go (yes l) = overlong-answer l out ∙ sym (overlong-answer l out')
      go (no n) = by (omega arith) (kind (command_at script i))

  -- THEOREM: if it is too little, the step is refused with cause 11
  pub step-needed : (out : Outputs) → TooLittle s script i out → answer_on out ≡ refused 11
  step-needed out h = go (dec_lt most_bytes (length script))
    where
      -- a step that takes nothing finds enough
      nothing : ((f : Operation → ℕ) → of_step f script i ≡ 0) → ⊥
      nothing z = ⊎_elim (λ w. omega (arith, z (words_taken s))) (λ t. omega (arith, z (text_taken s))) h

      by : length script ≤ most_bytes → Kind (command_at script i) → answer_on out ≡ refused 11
      by l (operates op k) = short-answer l op k out h
      by l (other x) = absurd (nothing (λ f. command-takes f script i l (command_at script i) refl ∙ x.takes f))

      go : Dec (most_bytes < length script) → answer_on out ≡ refused 11
      go (yes l) = absurd (nothing (λ f. overlong-takes f script i l))
      go (no n) = by (omega arith) (kind (command_at script i))
