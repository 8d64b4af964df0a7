-- `reason::lowest::range_is_lower` meets its contract: case by case of the other. Assumes nothing.
use Rattle.reason.proofs.LowestLaws.{than-told, range-than-value}
use Rattle.reason.proofs.lowest.range_is_lower.Goals as goal

pub returns-in-Value : goal.returns-in-Value
returns-in-Value c = range-than-value _ _ _ c.in-Value.is

pub returns-in-Range : goal.returns-in-Range
returns-in-Range c = than-told _ _ _ _ c.in-Range.is c.is_lower_range.ensures
