-- `reason::lowest::is_lower` meets its contract: case by case of the one. Assumes nothing.
use Rattle.reason.proofs.LowestLaws.{told-than}
use Rattle.reason.proofs.lowest.is_lower.Goals as goal

pub returns-in-Value : goal.returns-in-Value
returns-in-Value c = told-than _ _ _ _ c.in-Value.is c.value_is_lower.ensures

pub returns-in-Range : goal.returns-in-Range
returns-in-Range c = told-than _ _ _ _ c.in-Range.is c.range_is_lower.ensures
