-- `slice::rows::links_lack` meets its contract. Assumes nothing.
use Rattle.state.specs.Meaning.{scheme_of}
use Rattle.model.proofs.MissingLoops.{lack-start}
use Rattle.slice.proofs.LackLaws.{leaves, goes_on, ends}
use Rattle.slice.proofs.NearLaws.{ends_at}
use native.Mathlib.Omega.{arith}
use Rattle.slice.proofs.rows.links_lack.Goals as goal

pub loop-i-init : goal.loop-i-init
loop-i-init c = (omega arith, λ x. lack-start _)

pub offset_bounds-constraint-i : goal.offset_bounds-constraint-i
offset_bounds-constraint-i c = omega (arith, c.loop-i-test.true, c.requires.0.constraints)

pub bounds-constraint-i : goal.bounds-constraint-i
bounds-constraint-i c = omega (arith, c.loop-i-test.true, c.requires.0.constraints)

pub bounds-soles-i : goal.bounds-soles-i
bounds-soles-i c = omega (arith, c.loop-i-test.true, c.requires.0.constraints)

pub link_lack-requires : goal.link_lack-requires
link_lack-requires c = let t = c.loop-i-test.true in
    record { in_range = (c.requires.0, c.requires.1, c.requires.2, c.requires.3, t); c_value = ends_at _ _ _ _ c.requires.4 (omega (arith, t, c.requires.0.constraints)) }

pub returns-in-Some : goal.returns-in-Some
unfolding scheme_of
returns-in-Some c = λ x. leaves _ _ _ c.loop-i-test.true (c.loop-i.invariant.1 x) (c.in-Some.ensures x)

pub loop-i-preserved : goal.loop-i-preserved
loop-i-preserved c = (omega arith, λ x. goes_on _ _ (c.loop-i.invariant.1 x) (c.in_default.ensures x))

pub returns : goal.returns
unfolding scheme_of
returns c = λ x. ends _ _ _ c.loop-i.invariant.0 c.loop-i-test.false (c.loop-i.invariant.1 x)
