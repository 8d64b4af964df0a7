-- `reason::linking::first_constraint` meets its contract. Assumes nothing.
use Prim.Native.Nat.{◌-◌}
use mathlib.Core.Path.{refl, ◌∙◌}
use borrow.Author.Tests.{tests}
use Rattle.std.proofs.Common.{rules}
use Rattle.std.proofs.lemmas.Iterator.{YieldsList-from_range}
use Rattle.finite.proofs.Ranges.{first_in-range}
use Rattle.reason.proofs.linking.first_constraint.Goals as goal

pub returns : goal.returns
returns c = c.unwrap_or.ensures ∙
    first_in-range c.args.most _ 0 _ _ c.find.result c.find.ensures.ran (YieldsList-from_range 0 c.args.most (c.args.most - 0) (cc) refl) (λ x b q k. search (rules, tests))
