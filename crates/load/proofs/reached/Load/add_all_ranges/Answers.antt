-- `load::reached::Load::add_all_ranges` meets its contract: a loop of steps to level 2, one for each desk. Assumes nothing.
use native.Mathlib.Omega.{arith}
use mathlib.Core.Path.{refl}
use Rattle.finite.proofs.Search.{any-start}
use Rattle.load.proofs.QueueLaws.{grown-end, grown-start, grown-turn}
use Rattle.load.proofs.reached.Load.add_all_ranges.Goals as goal

pub loop-desk-init : goal.loop-desk-init
loop-desk-init c = (omega arith, λ D x. grown-start _ _ _ _ _ 0 c.args.self.now.long c.args.self.now.listed (λ r l. any-start _))

pub loop-desk-preserved : goal.loop-desk-preserved
loop-desk-preserved c = (omega arith, λ D x. grown-turn _ _ _ _ _ _ _ _ _ _ _ _ _ (omega arith) (c.loop-desk.invariant.1 D x) (c.add_ranges.ensures D x) (λ r l. refl))

pub returns : goal.returns
returns c = λ D x. grown-end _ _ _ _ _ _ _ _ _ _ c.loop-desk.invariant.0 c.loop-desk-test.false (c.loop-desk.invariant.1 D x)
