-- `reason::lowest::lower_of` meets its contract, test by test. Assumes nothing.
use mathlib.Core.Path.{sym, ◌∙◌}
use borrow.Author.Tests.{not-true, not-false}
use Rattle.reason.proofs.LowestLaws.{lower-lacks, lower-first, lower-higher, lower-taken}
use Rattle.reason.proofs.lowest.lower_of.Goals as goal

pub returns-then-not-has : goal.returns-then-not-has
returns-then-not-has c = lower-lacks _ _ _ (not-true _ c.if-not-has.true-raw)

pub returns-then-not-is_lower : goal.returns-then-not-is_lower
returns-then-not-is_lower c = lower-higher _ _ _ (not-false _ c.if-not-has.false-raw) c.if-low.true
    (sym c.is_lower.ensures ∙ not-true _ c.if-not-is_lower.true-raw)

pub returns-else-not-is_lower : goal.returns-else-not-is_lower
returns-else-not-is_lower c = lower-taken _ _ _ (not-false _ c.if-not-has.false-raw) c.if-low.true
    (sym c.is_lower.ensures ∙ not-false _ c.if-not-is_lower.false-raw)

pub returns-else-low : goal.returns-else-low
returns-else-low c = lower-first _ _ _ (not-false _ c.if-not-has.false-raw) c.if-low.false
