-- `script::steps::place_of` meets its contract: a refusal, and the other cases. Assumes nothing.
use mathlib.Core.Path.{sym, ◌∙◌}
use Rattle.finite.proofs.Bools.{cond-true, cond-false}
use Rattle.script.proofs.steps.place_of.Goals as goal

pub returns-then-is_refusal : goal.returns-then-is_refusal
returns-then-is_refusal c = sym (cond-true _ _ _ (sym c.is_refusal.ensures ∙ c.if-is_refusal.true))

pub returns-else-is_refusal : goal.returns-else-is_refusal
returns-else-is_refusal c = sym (cond-false _ _ _ (sym c.is_refusal.ensures ∙ c.if-is_refusal.false))
