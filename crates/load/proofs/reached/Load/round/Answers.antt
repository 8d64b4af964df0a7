-- `load::reached::Load::round` meets its contract: a loop of steps to one level, by the rows in the queue's front. Assumes nothing.
use native.Mathlib.Omega.{arith}
use mathlib.Core.Path.{◌∙◌}
use Rattle.load.proofs.FrontLaws.{asks-here, asks_none, front-next, front-round}
use Rattle.load.proofs.QueueLaws.{grown-end, grown-start, grown-turn, listed-most}
use Rattle.load.proofs.reached.Load.round.Goals as goal

pub loop-i-init : goal.loop-i-init
loop-i-init c = (omega arith, c.requires.places_value.1.order, λ D x w. (grown-start _ _ _ _ _ _ c.args.self.now.long c.args.self.now.listed (λ r l. asks_none _ _ _ r), w))

pub offset_bounds-self-i : goal.offset_bounds-self-i
offset_bounds-self-i c = omega (arith, listed-most _ _ _ c.args.self.now.listed, c.loop-i-test.true)

pub bounds-self-i : goal.bounds-self-i
bounds-self-i c = omega (arith, listed-most _ _ _ c.args.self.now.listed, c.loop-i-test.true)

pub expand-requires : goal.expand-requires
expand-requires c = let h = c.loop-i in
    let v = h.invariant.2 c.requires.demands.0 c.requires.demands.1 c.requires.demands.2 in
    let s = v.0.queue.row h.i (omega (arith, c.loop-i-test.true, v.0.longer)) in
    record { in_range = (c.requires.in_range.0, omega (arith, s, c.from-s.ensures), omega arith); places_value = c.requires.places_value.0; demands = (c.requires.demands.0, c.requires.demands.1, v.1) }

pub loop-i-preserved : goal.loop-i-preserved
loop-i-preserved c = let w = c in
    let h = w.loop-i in
    let t = c.loop-i-test.true in
    let q = w.args.self.now.queue in (
      omega (arith, h.invariant.0),
      omega (arith, t),
      λ D x y.
          let v = h.invariant.2 D x y in
          let e = c.expand.ensures D x v.1 in
          (grown-turn _ _ _ _ _ _ _ _ _ _ _ _ _ (omega arith) v.0 e.0 (λ r l. asks-here _ _ q _ h.invariant.0 _ (c.from-s.ensures ∙ v.0.kept _ t) r), e.1),
    )

pub returns : goal.returns
returns c = λ D x y.
    let p = c.requires.places_value in
    let u = c.args.self.now.listed in
    let v = c.loop-i.invariant.2 D x y in
    let g = grown-end _ _ _ _ _ _ _ _ _ _ c.loop-i.invariant.1 c.loop-i-test.false v.0 in
    (front-round _ D x.links.size_is _ _ _ _ _ u p.1 _ g.levels, front-next _ _ _ _ _ u p.1 _ (omega arith) _ _ _ _ g, v.1)
