-- `load::reached::Load::add_range` meets its contract: a loop of steps to level 2, one for each value in the span. Assumes nothing.
use native.Mathlib.Omega.{arith}
use mathlib.Core.Path.{sym}
use Rattle.finite.proofs.Search.{any-start}
use Rattle.load.proofs.AlongLaws.{along-has, begins-has}
use Rattle.load.proofs.QueueLaws.{grown-end, grown-same, grown-start, grown-turn}
use Rattle.load.proofs.reached.Load.add_range.Goals as goal

pub loop-j-init : goal.loop-j-init
loop-j-init c = (omega arith, λ D x. grown-start _ _ _ _ _ 0 c.args.self.now.long c.args.self.now.listed (λ r l. any-start _))

pub overflow_add-from : goal.overflow_add-from
overflow_add-from c = let s = c.find_range-span.ensures c.requires.indexed.0 c.requires.indexed.1.directory in omega (arith, s.bound, c.loop-j-test.true)

pub first_of-r-requires : goal.first_of-r-requires
first_of-r-requires c = let s = c.find_range-span.ensures c.requires.indexed.0 c.requires.indexed.1.directory in omega (arith, s.bound, c.loop-j-test.true)

pub walk-requires : goal.walk-requires
walk-requires c = let h = c.loop-j in
    let s = c.find_range-span.ensures c.requires.indexed.0 c.requires.indexed.1.directory in
    let f = c.first_of-r.ensures _ _ (s.first h.j c.loop-j-test.true) in
    record { place_bound = (omega (arith, c.from.ensures, c.requires.table_bound.1), omega arith); links = (c.requires.indexed.0, c.requires.indexed.1.links, begins-has _ _ _ _ f _ c.from.ensures) }

pub loop-j-preserved : goal.loop-j-preserved
loop-j-preserved c = let t = c.loop-j-test.true in
    let h = c.loop-j in (
      omega (arith, t),
      λ D x.
          let s = c.find_range-span.ensures D x.directory in
          let f = c.first_of-r.ensures _ _ (s.first h.j t) in
          grown-turn _ _ _ _ _ _ _ _ _ _ _ _ _ (omega arith) (h.invariant.1 D x) (c.walk.ensures D x.links (begins-has _ _ _ _ f _ c.from.ensures)) (along-has _ _ _ _ f _ c.from.ensures),
    )

pub returns : goal.returns
returns c = λ D x.
    let s = c.find_range-span.ensures D x.directory in
    let g = grown-end _ _ _ _ _ _ _ _ _ _ c.loop-j.invariant.0 c.loop-j-test.false (c.loop-j.invariant.1 D x) in
    grown-same _ _ _ _ _ _ _ _ g _ (λ r l. sym (s.rows r))
