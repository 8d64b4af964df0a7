-- `reason::wording::put_origin` meets its contract: case by case. Assumes nothing.
use Rattle.reason.proofs.WordingLaws.{origin-told}
use Rattle.reason.proofs.wording.put_origin.Goals as goal

pub returns-in-Value : goal.returns-in-Value
returns-in-Value c = origin-told _ _ _ _ _ _ c.in-Value.is c.put_value.ensures

pub returns-in-Range : goal.returns-in-Range
returns-in-Range c = origin-told _ _ _ _ _ _ c.in-Range.is c.put_range.ensures
