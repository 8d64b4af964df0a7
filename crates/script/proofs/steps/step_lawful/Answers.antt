-- `script::steps::step_lawful` meets its contract. Assumes nothing.
use Rattle.script.proofs.StepLaws.{step-overlong}
use Rattle.script.proofs.StepCode.{refusing-does, step_is, step_case}
use Rattle.script.proofs.steps.step_lawful.Goals as goal

pub returns-then-script-gt-MOST_BYTES : goal.returns-then-script-gt-MOST_BYTES
returns-then-script-gt-MOST_BYTES c = let s = c in record { does = step_case _ _ _ _ _ (step-overlong _ _ _ _ s.requires.0 c.if-script-gt-MOST_BYTES.true) (refusing-does _ _ _ _ _ _ _ c.refusing.ensures); catalogued = (s.requires.1, s.requires.2) }

pub returns : goal.returns
returns c = let s = c in record { does = step_is _ s.requires.0 _ _ _ c.if-script-gt-MOST_BYTES.false _ _ _ c.carry_out.ensures.does; catalogued = c.carry_out.ensures.catalogued }
