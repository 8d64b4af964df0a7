-- `slice::fetched::seek` meets its contract: the fetches that stand before q come first. Assumes nothing.
use borrow.Author.Tests.{tests}
use native.Mathlib.Omega.{arith}
use Rattle.std.proofs.Common.{rules}
use Rattle.slice.proofs.SeekLaws.{is_before, before-falling, halved-sought}
use Rattle.slice.proofs.fetched.seek.Goals as goal

pub returns : goal.returns
returns c = λ o. let s = c.args in
    halved-sought _ _ _ _ (c.turning_point.ensures (is_before s.words.now s.n s.q) (λ k b h. search (rules, tests, h)) (omega arith) (before-falling _ _ _ o))
