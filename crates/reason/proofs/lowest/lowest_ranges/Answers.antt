-- `reason::lowest::lowest_ranges` meets its contract: one desk after the other. Assumes nothing.
use Prim.Native.Nat.{ℕ, ◌≤◌, ◌<◌}
use native.Mathlib.Omega.{arith}
use mathlib.Core.Path.{sym, subst}
use Rattle.state.specs.declared.held.DeskRanges.{DeskRanges}
use Rattle.state.specs.Held.{range_at}
use Rattle.reason.proofs.LowestLaws.{desks-start, desks-turn, desks-end}
use Rattle.reason.proofs.lowest.lowest_ranges.Goals as goal

pub loop-e-init : goal.loop-e-init
loop-e-init c = (omega arith, desks-start _ _ _ _ _)

pub ranges_at-ranges-requires : goal.ranges_at-ranges-requires
ranges_at-ranges-requires c = c.loop-e-test.true

pub lowest_range-low-requires : goal.lowest_range-low-requires
lowest_range-low-requires c = let q = subst (λ (s : DeskRanges). (s.count ≤ 8) × ((i : ℕ) → (range_at s i).filling < 8)) (sym c.ranges_at-ranges.ensures) (c.requires.3.ranges c.loop-e.e, c.requires.3.range c.loop-e.e) in
    (c.requires.0, c.requires.1, c.requires.2, q.0, q.1)

pub overflow_step-e : goal.overflow_step-e
overflow_step-e c = omega (arith, c.loop-e-test.true)

pub loop-e-smaller : goal.loop-e-smaller
loop-e-smaller c = omega (arith, c.loop-e-test.true)

pub loop-e-preserved : goal.loop-e-preserved
loop-e-preserved c = (omega (arith, c.loop-e-test.true), desks-turn _ _ _ _ _ _ _ _ c.loop-e.invariant.1 (rw c.ranges_at-ranges.ensures at c.lowest_range-low.ensures))

pub returns : goal.returns
returns c = desks-end _ _ _ _ _ _ _ c.loop-e.invariant.0 c.loop-e-test.false c.loop-e.invariant.1
