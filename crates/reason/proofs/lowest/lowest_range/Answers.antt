-- `reason::lowest::lowest_range` meets its contract: one range after the other. Assumes nothing.
use native.Mathlib.Omega.{arith}
use mathlib.Core.Path.{refl}
use Rattle.reason.specs.Lowest.{lowest_of_ranges}
use Rattle.reason.proofs.LowestLaws.{range-has, below-start, below-turn, below_end}
use Rattle.reason.proofs.lowest.lowest_range.Goals as goal

pub loop-i-init : goal.loop-i-init
loop-i-init c = (omega arith, λ d e. below-start _ _ _ _ _)

pub offset_bounds-list-i : goal.offset_bounds-list-i
offset_bounds-list-i c = omega (arith, c.requires.3, c.loop-i-test.true)

pub bounds-list-i : goal.bounds-list-i
bounds-list-i c = omega (arith, c.requires.3, c.loop-i-test.true)

pub offset_bounds-filling-q : goal.offset_bounds-filling-q
offset_bounds-filling-q c = omega (arith, c.requires.4 c.loop-i.i)

pub bounds-filling-q : goal.bounds-filling-q
bounds-filling-q c = omega (arith, c.requires.4 c.loop-i.i)

pub has_range-has-requires : goal.has_range-has-requires
has_range-has-requires c = (c.requires.0, c.requires.1.column _, c.requires.2)

pub overflow_step-i : goal.overflow_step-i
overflow_step-i c = omega (arith, c.requires.3, c.loop-i-test.true)

pub loop-i-smaller : goal.loop-i-smaller
loop-i-smaller c = omega (arith, c.loop-i-test.true)

pub loop-i-preserved : goal.loop-i-preserved
loop-i-preserved c = (
  omega (arith, c.loop-i-test.true),
  λ d e. below-turn _ _ _ _ _ _ _ _ _ _ (c.loop-i.invariant.1 d e) c.lower_of-low.ensures refl (range-has _ _ d _ e _ _ c.has_range-has.ensures),
)

pub returns : goal.returns
unfolding lowest_of_ranges
returns c = below_end _ _ _ _ _ _ _ _ c.loop-i.invariant.0 c.loop-i-test.false (c.loop-i.invariant.1 _ refl)
