-- `load::reached::Load::reach_if` meets its contract: a step to one row, or to none. Assumes nothing.
use lib.Dec.{eqb}
use Rattle.std.proofs.Common.{rules}
use borrow.Author.Tests.{tests}
use Rattle.finite.proofs.Bools.{and_left}
use Rattle.load.proofs.QueueLaws.{grown-idle, grown-same}
use Rattle.load.proofs.reached.Load.reach_if.Goals as goal

pub returns-then-not-wanted : goal.returns-then-not-wanted
returns-then-not-wanted c = grown-idle _ _ _ _ _ c.args.self.now.long c.args.self.now.listed (λ r l. and_left c.args.wanted (eqb r c.args.r) (search (rules, tests)))

pub returns : goal.returns
returns c = grown-same _ _ _ _ _ _ _ _ c.reach.ensures _ (λ r l. search (rules, tests))
