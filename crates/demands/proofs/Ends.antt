-- Each call ends (01, demand 1): a step that does not stop the reading moves behind its command, inside the script, whatever is lent; and so a run ends. Assumes nothing.
use Prim.Native.Nat.{ℕ, ◌≤◌, ◌<◌}
use native.Mathlib.Omega.{arith}
use mathlib.Core.Path.{◌≡◌}
use mathlib.Core.Bool.{false}
use mathlib.Core.List.{List}
use mathlib.Core.Logic.{◌⊎◌, inl, inr, ⊎_elim}
use lib.ListN.{length}
use Rattle.finite.proofs.Bools.{dec}
use Rattle.state.specs.Lent.{State}
use Rattle.script.specs.Step.{Outputs, step_at}
use Rattle.run.specs.Runs.{left_from}
use Rattle.script.proofs.StepLaws.{step-on}
use Rattle.run.proofs.RunLaws.{left-fuel}

module _ (s : State) (out : Outputs) (script : List ℕ) (i : ℕ) where
  -- THEOREM: a step stops the reading, or moves on inside the script
  pub step-moves : ((step_at s out script i).more ≡ false) ⊎ ((i < (step_at s out script i).next) × ((step_at s out script i).next ≤ length script))
  step-moves = ⊎_elim (λ q. inr (step-on s out script i q)) (λ q. inl q) (dec (step_at s out script i).more)

  -- THEOREM: however many more steps are allowed than the script has bytes, the same is left: the run has ended
  pub run_ends : (n : ℕ) → length script ≤ n → left_from n script s out i ≡ left_from (length script) script s out i
  run_ends n l = left-fuel script n (length script) s out i (omega arith) (omega arith)
