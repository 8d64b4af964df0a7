-- `state::answer::members` meets its contract. The invariant: the members below e are shown. Assumes nothing.
use native.Mathlib.Omega.{arith}
use mathlib.Core.Path.{sym, ap, ◌∙◌}
use Rattle.finite.specs.Finite.{collect, tab}
use Rattle.finite.proofs.Bools.{cond-true, cond-false}
use Rattle.state.specs.declared.answer.Shown.{Shown}
use Rattle.state.proofs.AnswerLaws.{members-few, members-more, members-end}
use Rattle.state.proofs.answer.members.Goals as goal
use Rattle.state.proofs.answer.members.Goals.{then-has_constraint, else-has_constraint}

pub loop-e-init : goal.loop-e-init
unfolding collect tab
loop-e-init c = c.words-s.ensures

pub push-requires : goal.push-requires
push-requires c = omega (arith, members-few c.args.mask c.loop-e.e, ap (λ (x : Shown). x.count) c.loop-e.invariant)

pub loop-e-preserved : goal.loop-e-preserved
loop-e-preserved c =
    members-more _ _ _ _ _ c.loop-e-test.true c.loop-e.invariant
    (elim c.if-has_constraint.branch [
      | then-has_constraint w ↦ w.s-is ∙ w.push.ensures ∙ sym (cond-true _ _ _ (sym c.has_constraint.ensures ∙ w.if-has_constraint.true))
      | else-has_constraint w ↦ w.s-is ∙ sym (cond-false _ _ _ (sym c.has_constraint.ensures ∙ w.if-has_constraint.false))
    ])

pub returns : goal.returns
returns c = members-end _ _ _ _ (omega arith) c.loop-e-test.false c.loop-e.invariant
