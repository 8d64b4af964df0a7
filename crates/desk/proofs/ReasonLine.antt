-- What the desk prints for a reason is the command's number and the sentence, byte by byte (02, Req 08). Assumes nothing.
use Prim.Native.Nat.{ℕ, ◌+◌, ◌≤◌}
use native.Mathlib.Omega.{arith}
use mathlib.Core.Path.{◌≡◌, refl, ap, ◌∙◌}
use mathlib.Core.Bool.{true}
use mathlib.Core.List.{List, ◌∷◌, [], ◌++◌, append-nil}
use lib.ListN.{length, take, drop}
use lib.Seq.{sets, sets-eq, take_at}
use Rattle.finite.specs.Decimal.{space, decimal}
use Rattle.model.specs.Runs.{Operation, ask, reason, marked}
use Rattle.model.specs.Sentence.{reason_text}
use Rattle.model.specs.Answers.{Answer, explained, shown, has_lists, has_text}
use Rattle.model.specs.Effects.{effect}
use Rattle.model.proofs.ReasonCases.{Replies, reason-given}
use Rattle.state.specs.declared.operation.Operation.TheVariants.{Reason}
use Rattle.state.specs.Lent.{State, scheme, database, cache, sound, answer_at, text_at}
use Rattle.lawful.proofs.SoundState.{answer-at, text-at}
use Rattle.command.specs.declared.command.Command.TheVariants.{Operate}
use Rattle.command.specs.Bytes.{byte_at}
use Rattle.command.specs.Commands.{command_at, width_of}
use Rattle.format.specs.Reading.{most_bytes}
use Rattle.report.specs.Report.{newline, answer_text, command_line}
use Rattle.script.specs.Step.{Outputs, outputs_after, place_of, operated, carried, step_at}
use Rattle.script.proofs.StepLaws.{step-carried}
use Rattle.desk.specs.Printed.{lists_text, positions_at, step_text}

-- a text that was written from the first byte on stands in front
front : (t w : List ℕ) → length w ≤ length t → take (length w) (sets t 0 w) ≡ w
front t w l = ap (take (length w)) (sets-eq w t 0 (omega arith)) ∙ take_at w (drop (0 + length w) t) (length w) refl

-- a sound state, and the question for the reason of row r at place i of a script
module _ (s : State) (e : sound s ≡ true) (outs : Outputs) (script : List ℕ) (short : length script ≤ most_bytes) (i r : ℕ)
    (here : command_at script i ≡ Operate (Reason r)) where
  abbrev sentence : List ℕ
  sentence = reason_text (scheme s) (database s) (cache s).held r

  abbrev asked : Operation
  asked = ask (reason r (length outs.text))

  -- the row is cached, and its sentence fits
  module _ (live : (database s).live r ≡ true) (cached : marked (cache s).marks r ≡ true) (room : length sentence ≤ length outs.text) where
    given : Replies (scheme s) (database s) (cache s) (reason r (length outs.text)) (explained (length sentence)) sentence
    given = reason-given (scheme s) (database s) (cache s) r (length outs.text) live cached room

    answered : answer_at s asked ≡ explained (length sentence)
    unfolding effect
    answered = answer-at s e asked ∙ given.answer

    stored : take (length sentence) (sets outs.text 0 (text_at s asked)) ≡ sentence
    unfolding effect
    stored = ap (λ (w : List ℕ). take (length sentence) (sets outs.text 0 w)) (text-at s e asked ∙ given.text) ∙ front outs.text sentence room

    -- THEOREM: the step's lines are the number, a space and the sentence, on one line
    pub reason-line : (number : ℕ) → step_text script i number (step_at s outs script i) ≡ decimal number ++ ((space ∷ sentence) ++ (newline ∷ []))
    unfolding step_text command_line answer_text lists_text has_lists has_text shown carried operated
    reason-line number =
        let left = outputs_after s asked outs in
        ap (step_text script i number) (step-carried s outs script i e short ∙ ap (carried s outs script i (i + width_of (byte_at script i))) here) ∙
        ap (λ (a : Answer). command_line number a (place_of a i) left.text ++ lists_text a left.words (positions_at script i)) answered ∙
        append-nil _ ∙ ap (λ (t : List ℕ). decimal number ++ ((space ∷ t) ++ (newline ∷ []))) stored
