-- `catalog::firsts::make_firsts` meets its contract: after i turns the places of the first i constraints are set; then they are stored. Assumes nothing.
use Rattle.catalog.proofs.MakingLaws.{stored_same}
use Rattle.state.specs.Meaning.{scheme_of}
use Rattle.catalog.proofs.DemandLaws.{firsts-start, firsts-turn, firsts-end}
use mathlib.Core.Path.{sym}
use native.Mathlib.Omega.{arith}
use Rattle.catalog.proofs.firsts.make_firsts.Goals as goal

pub loop-i-init : goal.loop-i-init
loop-i-init c = (omega arith, firsts-start _ _)

pub add_firsts-requires : goal.add_firsts-requires
add_firsts-requires c = let i = c.loop-i.i in
    record { backed = c.requires.in_range.1; i_bound = (omega (arith, c.requires.in_range.0.constraints, c.loop-i-test.true), c.requires.in_range.0.source i, c.requires.in_range.0.target-table i, c.requires.in_range.0.target i); directory = c.requires.directory }

pub loop-i-preserved : goal.loop-i-preserved
unfolding scheme_of
loop-i-preserved c = let t = c.loop-i-test.true in
    (omega arith, firsts-turn _ _ _ _ _ c.loop-i.invariant.1 (omega (arith, c.requires.in_range.0.constraints, t)) t c.add_firsts.ensures)

pub slice_bounds-store-end : goal.slice_bounds-store-end
slice_bounds-store-end c = sym c.loop-i.invariant.1.long

pub store-requires : goal.store-requires
store-requires c = (omega (arith, c.loop-i.invariant.1.long), c.requires.in_range.2)

pub returns : goal.returns
unfolding scheme_of
returns c = stored_same _ _ _ _ _ (firsts-end _ _ _ _ c.loop-i.invariant.0 c.loop-i-test.false c.loop-i.invariant.1) c.store.ensures
