-- `cache::taking::filling_for` meets its contract: a search among the fillings. Assumes nothing.
use Rattle.std.proofs.Common.{rules}
use borrow.Author.Tests.{tests}
use mathlib.Core.Path.{refl, ◌∙◌}
use Rattle.std.proofs.lemmas.Iterator.{YieldsList-from_range}
use Rattle.finite.proofs.Ranges.{first_in-range}
use Rattle.model.specs.Runs.{filling_for}
use Rattle.state.specs.Meaning.{scheme_of}
use Rattle.cache.proofs.taking.filling_for.Goals as goal

pub returns : goal.returns
unfolding filling_for scheme_of
returns c = let n = c.args.design.fillings in
    c.unwrap_or.ensures ∙ first_in-range n _ 0 _ _ c.find.result c.find.ensures.ran (YieldsList-from_range 0 n _ (cc) refl) (λ x b q k. search (rules, tests))
