-- `reason::lowest::value_is_lower` meets its contract: case by case of the other. Assumes nothing.
use Rattle.reason.proofs.LowestLaws.{than-told, value-than-range}
use Rattle.reason.proofs.lowest.value_is_lower.Goals as goal

pub returns-in-Value : goal.returns-in-Value
returns-in-Value c = than-told _ _ _ _ c.in-Value.is c.is_lower_value.ensures

pub returns-in-Range : goal.returns-in-Range
returns-in-Range c = value-than-range _ _ _ c.in-Range.is
