-- `demanding::nearest::spread` meets its contract. Assumes nothing.
use Rattle.demanding.proofs.DemandingLaws.{handed-none, handed-more, handed-end}
use Rattle.catalog.proofs.CatalogLaws.{next-rises, next-from}
use Rattle.catalog.specs.Catalog.{next_of}
use mathlib.Core.Path.{sym, ap, ◌∙◌}
use mathlib.Core.Path.{sym, ap, ◌∙◌}
use native.Mathlib.Omega.{arith}
use Rattle.demanding.proofs.nearest.spread.Goals as goal

pub loop-t-init : goal.loop-t-init
loop-t-init c = λ D l k v e f z. handed-none _ _ _ _ _ f

pub next_row-t-requires : goal.next_row-t-requires
next_row-t-requires c = (c.loop-t-test.true, c.requires.0)

pub loop-t-smaller : goal.loop-t-smaller
loop-t-smaller c = let x = c.requires.2 in omega (arith, next-rises x.0 _ _ _ c.loop-t-test.true (c.next_row-t.ensures x.0 x.1))

pub loop-t-preserved : goal.loop-t-preserved
loop-t-preserved c = λ D l k v e f z.
    let t = c.loop-t-test.true in
    let w = c.loop-t.invariant D l k v e f z in
    handed-more _ _ _ _ _ _ w t (omega (arith, c.requires.1, z)) _ (next-from D k v _ (w.stands.here t) _ (c.next_row-t.ensures D l ∙ ap (next_of D c.loop-t.t) (sym e)))

pub returns : goal.returns
returns c = λ D l k v e f z. handed-end _ _ _ _ _ _ c.loop-t-test.false (c.loop-t.invariant D l k v e f z)
