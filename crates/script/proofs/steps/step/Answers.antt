-- `script::steps::step` meets its contract: causes 7 and 12, then the step on a sound state. Assumes nothing.
use mathlib.Core.Path.{sym, ◌∙◌}
use Rattle.state.proofs.HeldWords.{whole_long}
use Rattle.guard.proofs.CauseWords.{cause-clear, own-sound, own-whole}
use Rattle.script.proofs.StepCode.{caused-words, done-words}
use Rattle.script.proofs.steps.step.Goals as goal

pub returns-then-why-ne0 : goal.returns-then-why-ne0
returns-then-why-ne0 c = caused-words _ _ _ _ _ _ _ _ _ c.cause-why.ensures.0 c.if-why-ne0.true _ c.refusing.ensures

pub first_words-own-requires : goal.first_words-own-requires
first_words-own-requires c = (cause-clear _ _ (sym c.cause-why.ensures.0 ∙ c.if-why-ne0.false)).long

pub step_lawful-step-requires : goal.step_lawful-step-requires
step_lawful-step-requires c = (
  own-sound _ _ _ _ _ _ c.first_words-own.ensures _ c.cause-why.ensures.0 c.if-why-ne0.false,
  c.cause-why.ensures.1 c.if-why-ne0.false,
  own-whole _ _ _ _ _ _ c.first_words-own.ensures _ c.cause-why.ensures.0 c.if-why-ne0.false,
)

pub store_words-requires : goal.store_words-requires
store_words-requires c = (whole_long _ c.step_lawful-step.ensures.catalogued.1, (cause-clear _ _ (sym c.cause-why.ensures.0 ∙ c.if-why-ne0.false)).long)

pub returns : goal.returns
returns c = done-words _ _ _ _ _ _ _ _ _ c.cause-why.ensures.0 c.if-why-ne0.false _ c.first_words-own.ensures _ _ _ _ _ _ _ c.step_lawful-step.ensures.does c.step_lawful-step.ensures.catalogued.1 c.store_words.ensures
