-- `opener::giving::mark_having` meets its contract. Assumes nothing.
use Rattle.opener.proofs.MarkingLaws.{mark-none, mark-more, mark-end}
use Rattle.catalog.proofs.CatalogLaws.{next-rises, next-from}
use Rattle.state.specs.Meaning.{column_of}
use native.Mathlib.Omega.{arith}
use Rattle.opener.proofs.giving.mark_having.Goals as goal

pub loop-r-init : goal.loop-r-init
loop-r-init c = λ D x v e z. mark-none _ _ _ e

pub loop-r-smaller : goal.loop-r-smaller
loop-r-smaller c = let x = c.requires.2 in omega (arith, next-rises x.0 _ _ _ c.loop-r-test.true (c.next_row-r.ensures x.0 x.1.links))

pub loop-r-preserved : goal.loop-r-preserved
loop-r-preserved c = λ D x v e z.
    let t = c.loop-r-test.true in
    let w = c.loop-r.invariant D x v e z in
    mark-more _ _ _ _ w t z _ (next-from D (column_of c.args.k) v _ (w.stands.here t) _ (c.next_row-r.ensures D x.links))

pub returns : goal.returns
returns c = λ D x z. mark-end _ _ _ _ c.loop-r-test.false (c.loop-r.invariant D x _ (c.find-r.ensures D x.directory) z)
