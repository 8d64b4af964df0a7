-- `desk::parts::put_first` meets its contract, verdict by verdict. Assumes nothing.
use mathlib.Core.Path.{refl}
use Rattle.desk.proofs.PartLaws.{first-accepted, first-refused}
use Rattle.desk.proofs.parts.put_first.Goals as goal

pub returns-in-Accepted : goal.returns-in-Accepted
returns-in-Accepted c = first-accepted _ _ _ _ _ _ _ _ c.in-Accepted.is c.put_design_line-end.ensures refl refl refl refl

pub returns-in-Refused : goal.returns-in-Refused
returns-in-Refused c = first-refused _ _ _ _ _ _ _ _ _ c.in-Refused.is c.put_refusal_line-end.ensures refl refl refl refl
