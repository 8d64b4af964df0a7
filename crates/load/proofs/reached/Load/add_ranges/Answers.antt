-- `load::reached::Load::add_ranges` meets its contract: a loop of steps to level 2, one for each range. Assumes nothing.
use native.Mathlib.Omega.{arith}
use mathlib.Core.Path.{ap}
use lib.ListN.{get_or}
use Rattle.finite.proofs.Search.{any-start}
use Rattle.model.specs.Ranges.{has_range}
use Rattle.state.specs.declared.held.Range.{Range}
use Rattle.state.specs.Design.{no_filling}
use Rattle.state.specs.Meaning.{column_of, range_of, scheme_of}
use Rattle.load.proofs.QueueLaws.{grown-end, grown-start, grown-turn}
use Rattle.load.proofs.reached.Load.add_ranges.Goals as goal

pub loop-i-init : goal.loop-i-init
loop-i-init c = (omega arith, λ D x. grown-start _ _ _ _ _ 0 c.args.self.now.long c.args.self.now.listed (λ r l. any-start _))

pub loop-i-preserved : goal.loop-i-preserved
loop-i-preserved c = (
  omega (arith, c.loop-i-test.true),
  λ D x. grown-turn _ _ _ _ _ _ _ _ _ _ _ _ _ (omega arith) (c.loop-i.invariant.1 D x) (c.add_range.ensures D x)
      (λ r l. ap (λ (q : Range). has_range D (column_of (get_or c.args.d.filling q.filling no_filling).column) (range_of q) r) c.range_at-q.ensures),
)

pub returns : goal.returns
unfolding scheme_of
returns c = λ D x.
    grown-end _ _ _ _ _ _ _ _ _ _ (omega (arith, c.loop-i.invariant.0, c.range_count-i-end.ensures)) (omega (arith, c.loop-i-test.false, c.range_count-i-end.ensures)) (c.loop-i.invariant.1 D x)
