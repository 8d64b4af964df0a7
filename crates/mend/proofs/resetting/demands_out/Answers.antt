-- `mend::resetting::demands_out` meets its contract: the constraints below i are done. Assumes nothing.
use Prim.Native.Nat.{◌<◌}
use native.Mathlib.Omega.{arith}
use Rattle.state.specs.Meaning.{scheme_of}
use Rattle.mend.proofs.ResetLaws.{beside-start, beside-turn, beside-indexed, turning-start, turning-firsts, turning-turn, turning-end}
use Rattle.mend.proofs.resetting.demands_out.Goals as goal

pub loop-i-init : goal.loop-i-init
loop-i-init c = (omega arith, beside-start _, λ E w y h. turning-start _ _ _ _ h)

pub demand_out-requires : goal.demand_out-requires
demand_out-requires c = let v = c.loop-i.invariant in
    let i = c.loop-i.i in
    record { r_bound = (c.requires.in_range.1, c.requires.in_range.2); i_bound = (omega (arith, c.requires.in_range.0.constraints, c.loop-i-test.true), c.requires.in_range.0.source-table i, c.requires.in_range.0.source i, c.requires.in_range.0.target-table i, c.requires.in_range.0.target i); without = (c.requires.without.0, c.requires.without.1, beside-indexed _ _ _ _ v.1 c.requires.without.2) }

pub loop-i-preserved : goal.loop-i-preserved
unfolding scheme_of
loop-i-preserved c = let v = c.loop-i.invariant in
    let t = c.loop-i-test.true in
    let b : c.loop-i.i < 16 = omega (arith, c.requires.in_range.0.constraints, t) in
    (omega arith, beside-turn _ _ _ _ b v.1 c.demand_out.ensures.0, λ E w y h. let u = v.2 E w y h in turning-turn _ _ _ _ _ u b t _ c.demand_out.ensures.0 (c.demand_out.ensures.1 E w (beside-indexed _ _ _ _ v.1 y) (turning-firsts _ _ _ _ _ u b t)))

pub returns : goal.returns
unfolding scheme_of
returns c = λ E w y h. turning-end _ _ _ _ _ _ c.loop-i-test.false y.links c.loop-i.invariant.1 (c.loop-i.invariant.2 E w y h)
