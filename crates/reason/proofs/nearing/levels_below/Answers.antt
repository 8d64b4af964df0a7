-- `reason::nearing::levels_below` meets its contract. Assumes nothing.
use borrow.Author.Tests.{tests}
use lib.Dec.{ltb}
use mathlib.Core.Bool.{cond}
use Rattle.std.proofs.Common.{rules}
use Rattle.model.specs.Rounds.{level}
use Rattle.reason.proofs.LinkLaws.{below-made}
use Rattle.finite.proofs.Made.{tab_from-fn}
use Rattle.reason.proofs.nearing.levels_below.Goals as goal

pub returns : goal.returns
returns c = below-made _ _ _
    (tab_from-fn 0 (λ s. cond (ltb (level c.args.levels.now s) c.args.m) (level c.args.levels.now s) 0) c.from_fn.ensures.items (λ x y q l k. search (rules, tests)))
