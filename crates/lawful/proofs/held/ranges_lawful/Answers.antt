use Rattle.std.proofs.Common.{rules}
use borrow.Author.Tests.{tests}
use mathlib.Core.Path.{refl}
use Rattle.std.proofs.lemmas.Iterator.{YieldsList-from_range}
use Rattle.finite.proofs.Ranges.{all_in-range}
use Rattle.model.specs.Holding.{desks}
use Rattle.lawful.proofs.held.ranges_lawful.Goals as goal

pub returns : goal.returns
returns c = all_in-range desks _ _ _ _ c.all.ensures.ran (YieldsList-from_range 0 desks desks (cc) refl) (λ x b q k. search (rules, tests))
