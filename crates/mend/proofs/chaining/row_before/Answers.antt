-- `catalog::chaining::row_before` meets its contract: p has the value, and n is its next row. Assumes nothing.
use native.Mathlib.Omega.{arith}
use mathlib.Core.Path.{◌∙◌}
use Rattle.catalog.proofs.CatalogLaws.{next-rises}
use Rattle.mend.proofs.ChainLaws.{chain-here, chain-last}
use Rattle.catalog.proofs.HitLaws.{first-hit}
use Rattle.mend.proofs.chaining.row_before.Goals as goal

pub loop-n-init : goal.loop-n-init
loop-n-init c = (c.requires.c_bound.1, c.link-n.ensures, λ D k v x q e. (first-hit _ _ _ e).here (omega arith))

pub loop-n-smaller : goal.loop-n-smaller
loop-n-smaller c = let i = c.loop-n.invariant in
    omega (arith, next-rises c.requires.chained.0 _ _ _ (omega arith) (i.1 ∙ c.requires.chained.1.at _ (omega arith)))

pub loop-n-preserved : goal.loop-n-preserved
loop-n-preserved c = let i = c.loop-n.invariant in
    (c.loop-n-test.true, c.link-n-in-loop-n.ensures, λ D k v x q e. chain-here D k v _ _ x q _ _ (omega arith) i.1 (i.2 D k v x q e) (omega arith))

pub returns : goal.returns
returns c = let i = c.loop-n.invariant in
    (i.0, λ D k v x q e. chain-last D k v _ _ x q _ _ (omega arith) i.1 (i.2 D k v x q e) _ i.0 c.loop-n-test.false)
