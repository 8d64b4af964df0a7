-- How much a step takes, case by case. Assumes nothing.
use Prim.Native.Nat.{ℕ, ◌≤◌, ◌<◌}
use mathlib.Core.Path.{◌≡◌, refl, sym, ap, ◌∙◌}
use mathlib.Core.List.{List}
use borrow.Author.Tests.{lt-ltb, le-ltb}
use lib.ListN.{length}
use Rattle.finite.proofs.Bools.{cond-true, cond-false}
use Rattle.state.specs.declared.operation.Operation.{Operation}
use Rattle.state.specs.Lent.{State}
use Rattle.command.specs.declared.command.Command.{Command}
use Rattle.command.specs.declared.command.Command.TheVariants.{Table, Constraint, Filling, Row, End, Operate, Put, Remove, Unknown, Short}
use Rattle.command.specs.Commands.{command_at}
use Rattle.format.specs.Reading.{most_bytes}
use Rattle.script.specs.Step.{Outputs, changing, carried}
use Rattle.sizes.specs.StepSizes.{of_operation, of_step}

-- ---- case by case

-- a command that is no operation: it takes nothing, and is answered alike whatever is lent
pub record Other (c : Command) : Type 0 where
  pub takes : (f : Operation → ℕ) → of_operation f c ≡ 0
  pub same : (s : State) (script : List ℕ) (i j : ℕ) (out out' : Outputs) → (carried s out script i j c).answer ≡ (carried s out' script i j c).answer

pub data Kind (c : Command) : Type 0 where
  operates : (op : Operation) → c ≡ Operate op → Kind c
  other : Other c → Kind c

pub kind : (c : Command) → Kind c
unfolding carried changing of_operation
kind (Operate op) = operates op refl
kind (Put r t) = other (record { takes = λ f. refl; same = λ s script i j out out'. refl })
kind (Remove r) = other (record { takes = λ f. refl; same = λ s script i j out out'. refl })
kind (Table t) = other (record { takes = λ f. refl; same = λ s script i j out out'. refl })
kind (Constraint c) = other (record { takes = λ f. refl; same = λ s script i j out out'. refl })
kind (Filling f) = other (record { takes = λ f. refl; same = λ s script i j out out'. refl })
kind (Row t) = other (record { takes = λ f. refl; same = λ s script i j out out'. refl })
kind End = other (record { takes = λ f. refl; same = λ s script i j out out'. refl })
kind Unknown = other (record { takes = λ f. refl; same = λ s script i j out out'. refl })
kind Short = other (record { takes = λ f. refl; same = λ s script i j out out'. refl })

module _ (f : Operation → ℕ) (script : List ℕ) (i : ℕ) where
  pub overlong-takes : most_bytes < length script → of_step f script i ≡ 0
  unfolding of_step
  overlong-takes l = cond-true _ _ _ (lt-ltb most_bytes (length script) l)

  -- c is the command at place i
  module _ (l : length script ≤ most_bytes) (c : Command) (h : c ≡ command_at script i) where
    pub command-takes : of_step f script i ≡ of_operation f c
    unfolding of_step
    command-takes = cond-false _ _ _ (le-ltb most_bytes (length script) l) ∙ ap (of_operation f) (sym h)

    pub other-takes : ((op : Operation) → c ≡ Operate op → ⊥) → of_step f script i ≡ 0
    other-takes o = go (kind c)
      where
        go : Kind c → of_step f script i ≡ 0
        go (operates op k) = absurd (o op k)
        go (other x) = command-takes ∙ x.takes f

    pub operation-takes : (op : Operation) → c ≡ Operate op → of_step f script i ≡ f op
    unfolding of_operation
    operation-takes op k = command-takes ∙ ap (of_operation f) k
