-- A refused step leaves everything as it was, whatever is lent. (A sound state stays sound: `step-sound` of StepLaws, `left-sound` of RunLaws.) Assumes nothing.
use Prim.Native.Nat.{ℕ}
use mathlib.Core.Path.{◌≡◌, refl, sym, ap, subst, ◌∙◌}
use mathlib.Core.Bool.{false, true}
use mathlib.Core.List.{List}
use mathlib.Core.Logic.{⊎_elim}
use lib.Seq.{sets}
use Rattle.finite.proofs.Bools.{dec}
use Rattle.model.specs.Answers.{refused}
use Rattle.state.specs.Lent.{State}
use Rattle.state.proofs.Arrays.{HeldSized}
use Rattle.command.specs.Commands.{command_at}
use Rattle.state.specs.Meaning.{answer_of}
use Rattle.state.specs.declared.held.Held.{Held}
use Rattle.state.specs.HeldWords.{held_words, words_held, record_in}
use Rattle.state.proofs.HeldWords.{words-sized}
use Rattle.state.proofs.LentWords.{same-record-words}
use Rattle.script.specs.declared.outcome.Step.{Step}
use Rattle.script.specs.Step.{Outputs, rooms_of, operation_in, Stepped, operated, changing, step_at, DoesWords}
use Rattle.script.proofs.StepLaws.{step_by, carried-by}
use Rattle.script.proofs.Refusals.{refused-state, refused-outputs, refused-change}

-- the step leaves what it was lent
pub record Unchanged (s : State) (out : Outputs) (R : Stepped) : Type 0 where
  pub state : R.state ≡ s
  pub outputs : R.outputs ≡ out

-- what is held has its places, as its type says
module _ (s : State) (places : HeldSized s.held) (out : Outputs) (script : List ℕ) (i n : ℕ) where
  abbrev Keeps : Stepped → Type 0
  Keeps r = r.answer ≡ refused n → Unchanged s out r

  -- THEOREM: a refused call leaves the state, the answer words and the text as they were
  pub refused-unchanged : (step_at s out script i).answer ≡ refused n → Unchanged s out (step_at s out script i)
  unfolding operated changing
  refused-unchanged =
      step_by s out script i Keeps (λ m h. record { state = refl; outputs = refl })
      (λ e. carried-by s out script i _ Keeps
      (λ op h. let o = operation_in op (rooms_of out) in
      record { state = refused-state s e n places o h; outputs = refused-outputs s e n places o h out })
      (λ x z h. record { state = refused-change s n x h; outputs = refl })
      (λ m h. record { state = refl; outputs = refl }) (λ m place h. record { state = refl; outputs = refl }) (command_at script i))

-- THEOREM: of a step where what is held is lent as the words h, whatever stands there: refused, it leaves the state, these words, the answer words and the text
module _ (s : State) (h : List ℕ) (means : s.held ≡ words_held h) (out : Outputs) (script : List ℕ) (i n : ℕ)
    (t : Step) (s' : State) (h' : List ℕ) (w : Outputs) (x : DoesWords s h out script i t s' h' w) where
  pub refused-words : answer_of t.answer ≡ refused n → (s' ≡ s) × (h' ≡ h) × (w ≡ out)
  refused-words e =
      ⊎_elim (λ (b : record_in h ≡ true).
      let d = x.done b in
      let u = refused-unchanged s (subst HeldSized (sym means) (words-sized h)) out script i n (sym d.0.answer ∙ e) in
      let q = d.0.state ∙ u.state in
      (q, d.1 ∙ ap (λ (v : Held). sets h 0 (held_words v)) (ap (λ (z : State). z.held) q ∙ means) ∙ same-record-words h b, d.0.outputs ∙ u.outputs))
      (λ (b : record_in h ≡ false). let d = x.refused b in (d.0.state, d.1, d.0.outputs))
      (dec (record_in h))
