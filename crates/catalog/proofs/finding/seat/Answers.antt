-- `catalog::finding::seat` meets its contract: the keys that are above x come first. Assumes nothing.
use borrow.Author.Tests.{tests}
use Rattle.std.proofs.Common.{rules}
use Rattle.catalog.proofs.Searching.{is_above, above-falling, searched}
use Rattle.catalog.proofs.finding.seat.Goals as goal

pub returns : goal.returns
returns c = λ l f. let s = c.args in
    searched _ _ _ _ _ (c.turning_point.ensures (is_above s.x s.keys.now) (λ k b h. search (rules, tests, h)) l (above-falling _ _ _ _ f))
