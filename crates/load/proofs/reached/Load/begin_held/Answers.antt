-- `load::reached::Load::begin_held` meets its contract: a loop of steps to level 2, and those for the ranges. Assumes nothing.
use native.Mathlib.Omega.{arith}
use mathlib.Core.Path.{ap, ◌∙◌}
use Rattle.finite.proofs.Search.{any-start}
use Rattle.model.specs.Database.{has}
use Rattle.state.specs.declared.held.OwnedValue.{OwnedValue}
use Rattle.state.specs.Design.{filling_at}
use Rattle.state.specs.HeldWords.{words_held}
use Rattle.state.specs.Meaning.{cell_of, column_of, scheme_of}
use Rattle.load.proofs.AlongLaws.{along-has, begins-has}
use Rattle.load.proofs.QueueLaws.{grown-again, grown-end, grown-start, grown-turn}
use Rattle.load.proofs.RaisedLaws.{raised_on}
use Rattle.load.proofs.StartLaws.{start-all}
use Rattle.load.proofs.reached.Load.begin_held.Goals as goal

pub loop-i-init : goal.loop-i-init
loop-i-init c = (omega arith, λ D x. grown-start _ _ _ _ _ 0 c.args.self.now.long c.args.self.now.listed (λ r l. any-start _))

pub walk-requires : goal.walk-requires
walk-requires c =
    record { place_bound = (omega (arith, c.from.ensures, c.requires.in_range.0.column c.value_at.result.pair.filling), omega arith); links = (c.requires.indexed.0, c.requires.indexed.1.links, begins-has _ _ _ _ (c.find-r.ensures c.requires.indexed.0 c.requires.indexed.1.directory) _ c.from.ensures) }

pub loop-i-preserved : goal.loop-i-preserved
loop-i-preserved c = let s = c in (
  omega (arith, c.loop-i-test.true),
  λ D x.
      let f = c.find-r.ensures D x.directory in
      grown-turn _ _ _ _ _ _ _ _ _ _ _ _ _ (omega arith) (c.loop-i.invariant.1 D x) (c.walk.ensures D x.links (begins-has _ _ _ _ f _ s.from.ensures))
      (λ r l. along-has _ _ _ _ f _ s.from.ensures r l ∙
      ap (λ (o : OwnedValue). has D (column_of (filling_at s.args.d o.pair.filling).column) (cell_of o.pair.value) r) c.value_at.ensures),
)

pub returns : goal.returns
unfolding scheme_of
returns c = λ D x.
    let w = c.loop-i in
    let g = grown-end _ _ _ _ _ w.i (words_held c.args.held.now).count _ _ _ (omega (arith, w.invariant.0, c.value_count-i-end.ensures)) (omega (arith, c.loop-i-test.false, c.value_count-i-end.ensures)) (w.invariant.1 D x) in
    let h = grown-again _ _ _ _ _ _ _ _ _ _ _ _ (omega arith) g (c.add_all_ranges.ensures D x) in
    start-all _ D x.links.size_is _ _ (raised_on _ _ _ _ _ c.requires.fresh h.levels)
