-- `script::steps::remove_at` meets its contract: what `remove_lawful` gives, with its place. Assumes nothing.
use Rattle.script.proofs.StepCode.{changed-does}
use Rattle.script.proofs.steps.remove_at.Goals as goal

pub returns : goal.returns
returns c = record { does = λ out. changed-does _ _ _ _ _ _ _ _ c.remove_lawful-a.ensures.changed _ c.answering.ensures out; catalogued = c.remove_lawful-a.ensures.catalogued }
