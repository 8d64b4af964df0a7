-- `load::reached::Load::run` meets its contract: rounds that each added a row, until one adds nothing or enough rows are reached. Assumes nothing.
use Rattle.model.proofs.RoundsEnd.{some-at, running-end, running-next, running-start, running-stop}
use native.Mathlib.Omega.{arith}
use mathlib.Core.Path.{sym, ◌∙◌, ◌≡◌}
use Rattle.load.proofs.EndedLaws.{ended-enough, ended-whole}
use Rattle.load.proofs.FrontLaws.{front_at, front-quiet, front-some, front-start}
use Rattle.load.proofs.reached.Load.run.Goals as goal

pub loop-n-init : goal.loop-n-init
loop-n-init c = (omega arith, λ D x w. (running-start _ _ _ (c.args.self.now.long ∙ sym x.links.size_is) c.requires.in_range.1, front-start _ _ _ c.args.self.now.listed c.requires.in_range.1, w))

pub returns-then-most-rows : goal.returns-then-most-rows
returns-then-most-rows c = λ D x y.
    let v = c.loop-n.invariant.1 D x y in
    rw c.from-rounds.ensures (ended-enough _ _ _ _ _ _ _ c.loop-n.self.listed.size v.0.is c.loop-n.invariant.0 c.if-most-rows.true)

pub round-requires : goal.round-requires
round-requires c = let v = c.loop-n.invariant.1 c.requires.demands.0 c.requires.demands.1 c.requires.demands.2 in
    record { in_range = (c.requires.in_range.0, c.loop-n-test.true); places_value = (c.requires.places_value, v.1); demands = (c.requires.demands.0, c.requires.demands.1, v.2) }

pub returns-then-self-rows : goal.returns-then-self-rows
returns-then-self-rows c = λ D x y.
    let w = c in
    let v = w.loop-n.invariant.1 D x y in
    let z = x.links.size_is in
    let e = c.round.ensures D x v.2 in
    let u = c.round.new.self.listed in
    let q = some-at _ z _ _ _ (front-quiet _ _ _ _ _ u e.1 (omega arith) c.if-self-rows.true) in
    rw c.from-rounds.ensures (ended-whole _ _ _ _ _ _ _ (sym c.if-self-rows.true ∙ u.size) z (running-stop _ _ _ _ _ _ v.0 e.0 q (omega (arith, z, w.loop-n-test.true))))

pub loop-n-preserved : goal.loop-n-preserved
loop-n-preserved c = let w = c in (
  omega (arith, w.loop-n-test.true),
  λ D x y.
      let v = w.loop-n.invariant.1 D x y in
      let z = x.links.size_is in
      let e = c.round.ensures D x v.2 in
      let t = running-next _ _ _ _ _ _ v.0 e.0 (some-at _ z _ _ _ (front-some _ _ _ _ _ c.round.new.self.listed e.1 c.if-self-rows.false)) in
      (t, front_at _ _ _ _ _ _ (omega arith) e.1, e.2),
)

pub returns : goal.returns
returns c = λ D x y.
    let v = c.loop-n.invariant.1 D x y in
    let z = x.links.size_is in
    let n : 512 ≡ c.loop-n.n = omega (arith, c.loop-n.invariant.0, c.loop-n-test.false) in
    let e = running-end _ _ _ _ _ v.0 (omega (arith, z, c.loop-n.invariant.0)) (omega (arith, z, c.loop-n-test.false)) in
    ended-whole _ _ _ _ _ _ _ c.loop-n.self.listed.size z (e.0, n ∙ e.1)
