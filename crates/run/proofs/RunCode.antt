-- The loop over a script's commands, as the code makes it: one turn is one step, and what is left to do is what a run leaves. Assumes nothing.
use Prim.Native.Nat.{ℕ, suc, ◌≤◌, ◌<◌}
use native.Mathlib.Omega.{arith}
use mathlib.Core.Path.{◌≡◌, sym, ap, ◌∙◌}
use mathlib.Core.Bool.{Bool, true, false}
use mathlib.Core.List.{List}
use lib.ListN.{length}
use Rattle.finite.proofs.Bools.{cond-true, cond-false}
use Rattle.state.specs.Lent.{State, sound}
use Rattle.script.specs.declared.outcome.Step.{Step}
use Rattle.script.specs.Step.{Outputs, step_at, Does}
use Rattle.run.specs.Runs.{Left, leaving, left_from}
use Rattle.script.proofs.StepLaws.{step-sound, step-on}
use Rattle.run.proofs.RunLaws.{left_then, left-past, left_step, left-fuel}

module _ (script : List ℕ) (s : State) (out : Outputs) (i : ℕ) (l : Left) (rest : l ≡ left_from (length script) script s out i) where
  -- behind the last command
  pub leaves-past : length script ≤ i → leaving s out ≡ l
  leaves-past h = sym (rest ∙ left-past script s out i (length script) h)

  module _ (below : i < length script) (t : Step) (s' : State) (w : Outputs) (d : Does (step_at s out script i) t s' w) where
    -- a command takes at least one byte, so one turn more is as good
    turn : l ≡ left_then (length script) script (step_at s out script i)
    turn =
        rest ∙ left-fuel script (length script) (suc (length script)) s out i (omega arith) (omega arith) ∙
        left_step script s out i (length script) below

    more-is : (b : Bool) → t.more ≡ b → (step_at s out script i).more ≡ b
    more-is b h = sym d.more ∙ h

    -- a step after which reading stops
    pub leaves_last : t.more ≡ false → leaving s' w ≡ l
    leaves_last h =
        (λ x. leaving (d.state x) (d.outputs x)) ∙ sym (turn ∙ cond-false (step_at s out script i).more _ _ (more-is false h))

    -- a step after which it goes on
    pub left-on : t.more ≡ true → l ≡ left_from (length script) script s' w t.next
    left-on h =
        turn ∙ cond-true (step_at s out script i).more _ _ (more-is true h) ∙
        sym (λ x. left_from (length script) script (d.state x) (d.outputs x) (d.next x))

    pub next_place : t.more ≡ true → i < t.next
    next_place h = omega (arith, (step-on s out script i (more-is true h)).0, d.next)

    pub sound-on : sound s ≡ true → sound s' ≡ true
    sound-on e = ap sound d.state ∙ step-sound s out script i e
