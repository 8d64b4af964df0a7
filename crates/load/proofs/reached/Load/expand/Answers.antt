-- `load::reached::Load::expand` meets its contract: a loop of steps to one level. Assumes nothing.
use native.Mathlib.Omega.{arith}
use Rattle.finite.proofs.Search.{any-start}
use Rattle.model.specs.Rounds.{demands}
use Rattle.state.specs.Meaning.{scheme_of}
use Rattle.load.proofs.AlongLaws.{begins-leads, along-leads}
use Rattle.load.proofs.PlaceLaws.{target_at, targets_of}
use Rattle.load.proofs.QueueLaws.{grown-end, grown-start, grown-turn}
use Rattle.load.proofs.reached.Load.expand.Goals as goal

pub loop-i-init : goal.loop-i-init
loop-i-init c = (omega arith, λ S D x t w. (grown-start _ _ _ _ _ 0 c.args.self.now.long c.args.self.now.listed (λ r l. any-start _), w))

pub walk_once-requires : goal.walk_once-requires
walk_once-requires c = let h = c.loop-i in
    let t = c.loop-i-test.true in
    let S = scheme_of c.args.d in
    let k = targets_of _ _ c.requires.places_value c.requires.in_range.0 in
    let v = h.invariant.1 S c.requires.demands.0 c.requires.demands.1 k c.requires.demands.2 in
    let f = c.first_row.ensures S c.requires.demands.0 c.requires.demands.1 (omega (arith, k.0, t)) in
    let at = target_at c.args.d _ c.requires.places_value h.i (omega (arith, c.requires.in_range.0.constraints, t)) in
    record { place_bound = (omega (arith, at, c.requires.in_range.0.target h.i), c.requires.in_range.2); links = (c.requires.demands.0, c.requires.demands.1.links, begins-leads c.requires.demands.0 (S.constraint h.i) _ _ f _ (k.1 h.i t), v.1) }

pub loop-i-preserved : goal.loop-i-preserved
loop-i-preserved c = (
  omega (arith, c.loop-i-test.true),
  λ S D x k w.
      let t = c.loop-i-test.true in
      let i = c.loop-i.i in
      let v = c.loop-i.invariant.1 S D x k w in
      let f = c.first_row.ensures S D x (omega (arith, k.0, t)) in
      let u = c.walk_once.ensures D x.links (begins-leads D (S.constraint i) _ _ f _ (k.1 i t)) v.1 in
      (grown-turn _ _ _ _ _ _ _ _ _ _ _ _ _ (omega (arith, c.requires.in_range.2)) v.0 u.0 (along-leads D (S.constraint i) _ _ f _ (k.1 i t)), u.1),
)

pub returns : goal.returns
unfolding demands scheme_of
returns c = λ D x w.
    let v = c.loop-i.invariant.1 _ D x (targets_of _ _ c.requires.places_value c.requires.in_range.0) w in
    (grown-end _ _ _ _ _ _ _ _ _ _ c.loop-i.invariant.0 c.loop-i-test.false v.0, v.1)
