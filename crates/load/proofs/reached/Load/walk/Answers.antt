-- `load::reached::Load::walk` meets its contract: a walk from one row that has the value to the next. Assumes nothing.
use native.Mathlib.Omega.{arith}
use Rattle.catalog.proofs.CatalogLaws.{next-rises}
use Rattle.load.proofs.AlongLaws.{along-next, begins-first}
use Rattle.load.proofs.WalkLaws.{walk_end, walk-next, walk_start}
use Rattle.load.proofs.reached.Load.walk.Goals as goal

pub loop-r-init : goal.loop-r-init
loop-r-init c = λ D l b. walk_start _ _ _ _ _ _ c.args.self.now.long c.args.self.now.listed (begins-first D _ _ b)

pub loop-r-smaller : goal.loop-r-smaller
loop-r-smaller c = omega (arith, next-rises c.requires.links.0 _ _ _ c.loop-r-test.true (c.next_row-r.ensures c.requires.links.0 c.requires.links.1))

pub loop-r-preserved : goal.loop-r-preserved
loop-r-preserved c = λ D l b.
    let t = c.loop-r-test.true in
    let w = c.loop-r.invariant D l b in
    walk-next _ _ _ _ _ _ _ _ _ w _ _ _ _ (omega (arith, c.requires.place_bound.1)) t c.reach.ensures (along-next D _ _ _ (w.stands.here t) _ (c.next_row-r.ensures D l))

pub returns : goal.returns
returns c = λ D l b. walk_end _ _ _ _ _ _ _ _ _ (c.loop-r.invariant D l b) c.loop-r-test.false
