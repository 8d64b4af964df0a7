-- `wurzsige::feeding::kind_of` meets its contract. Assumes nothing.
use mathlib.Core.Path.{sym}
use borrow.Author.Tests.{eq-eqb, ne_eqb}
use Rattle.finite.proofs.Bools.{cond-true, cond-false}
use Rattle.wurzsige.proofs.feeding.kind_of.Goals as goal

pub returns-then-kind-eq0 : goal.returns-then-kind-eq0
returns-then-kind-eq0 c = sym (cond-true _ _ _ (eq-eqb _ 0 c.if-kind-eq0.true))

pub returns-else-kind-eq0 : goal.returns-else-kind-eq0
returns-else-kind-eq0 c = sym (cond-false _ _ _ (ne_eqb _ 0 c.if-kind-eq0.false))
