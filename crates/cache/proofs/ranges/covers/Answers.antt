-- `cache::ranges::covers` meets its contract: a search among the desk's ranges. Assumes nothing.
use Rattle.std.proofs.Common.{rules}
use borrow.Author.Tests.{tests}
use native.Mathlib.Omega.{arith}
use mathlib.Core.Path.{◌∙◌}
use Rattle.std.proofs.lemmas.Iterator.{YieldsList-from_range}
use Rattle.finite.proofs.Ranges.{any_in-range}
use Rattle.model.specs.Ranges.{contains}
use Rattle.state.specs.Held.{range_at}
use Rattle.state.specs.Meaning.{range_of}
use Rattle.cache.proofs.RangeRecord.{listed-any}
use Rattle.cache.proofs.ranges.covers.Goals as goal

pub returns : goal.returns
returns c = let s = c.args in let n = s.s.count in
    any_in-range n (λ i. contains (range_of (range_at s.s i)) (range_of s.r)) _ _ _ c.any.ensures.ran (YieldsList-from_range 0 n n (cc) (omega arith)) (λ x b q k. search (rules, tests))
    ∙ listed-any contains _ s.s
