-- `load::reached::Load::begin_rows` meets its contract: a loop of steps to level 2. Assumes nothing.
use native.Mathlib.Omega.{arith}
use mathlib.Core.Path.{refl}
use Rattle.finite.proofs.Search.{any-start}
use Rattle.load.proofs.RaisedLaws.{raised_on}
use Rattle.load.proofs.QueueLaws.{grown-end, grown-start, grown-turn}
use Rattle.load.proofs.SeedLaws.{start-seeds}
use Rattle.load.proofs.reached.Load.begin_rows.Goals as goal

pub loop-r-init : goal.loop-r-init
loop-r-init c = (omega arith, grown-start _ _ _ _ _ 0 c.args.self.now.long c.args.self.now.listed (λ r l. any-start _))

pub loop-r-preserved : goal.loop-r-preserved
loop-r-preserved c = (omega (arith, c.loop-r-test.true), grown-turn _ _ _ _ _ _ _ _ _ _ _ _ _ (omega arith) c.loop-r.invariant.1 c.reach_if.ensures (λ s l. refl))

pub returns : goal.returns
returns c = let s = c in
    let g = grown-end _ _ _ _ _ _ _ _ _ _ c.loop-r.invariant.0 c.loop-r-test.false c.loop-r.invariant.1 in
    λ D z. start-seeds D z c.args.seed.now _ (raised_on _ _ _ _ _ s.requires g.levels)
