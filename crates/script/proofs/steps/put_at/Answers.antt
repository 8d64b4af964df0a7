-- `script::steps::put_at` meets its contract: what `put_lawful` gives of the row at the place, with its place. Assumes nothing.
use Rattle.script.proofs.StepCode.{changed-does, put-changed}
use Rattle.script.proofs.steps.put_at.Goals as goal

pub returns : goal.returns
returns c = record { does = λ out. changed-does _ _ _ _ _ _ _ _ (put-changed _ _ _ _ c.row_at-x.ensures _ _ c.put_lawful-a.ensures.changed) _ c.answering.ensures out; catalogued = c.put_lawful-a.ensures.catalogued }
