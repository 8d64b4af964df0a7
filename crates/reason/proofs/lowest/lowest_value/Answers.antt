-- `reason::lowest::lowest_value` meets its contract: one held value after the other. Assumes nothing.
use native.Mathlib.Omega.{arith}
use mathlib.Core.Path.{refl, ap, ◌∙◌}
use Rattle.model.specs.Reason.{has_origin}
use Rattle.state.specs.Cells.{cells_in}
use Rattle.state.specs.declared.held.OwnedValue.{OwnedValue}
use Rattle.state.specs.Meaning.{database_of, scheme_of}
use Rattle.reason.specs.declared.lowest.Origin.TheVariants as O
use Rattle.reason.specs.Lowest.{lowest_of_values, origin_of}
use Rattle.reason.proofs.LowestLaws.{value-has, below-start, below-turn, below_end}
use Rattle.reason.proofs.lowest.lowest_value.Goals as goal

pub loop-i-init : goal.loop-i-init
loop-i-init c = (omega arith, λ d e. below-start _ _ _ _ _)

pub value_at-o-requires : goal.value_at-o-requires
value_at-o-requires c = omega (arith, c.requires.3, c.value_count-n.ensures, c.loop-i-test.true)

pub offset_bounds-filling-v : goal.offset_bounds-filling-v
offset_bounds-filling-v c = omega (arith, ap (λ (o : OwnedValue). o.pair.filling) c.value_at-o.ensures, c.requires.4 c.loop-i.i)

pub bounds-filling-v : goal.bounds-filling-v
bounds-filling-v c = omega (arith, ap (λ (o : OwnedValue). o.pair.filling) c.value_at-o.ensures, c.requires.4 c.loop-i.i)

pub has-has-requires : goal.has-has-requires
has-has-requires c = (c.requires.0, c.requires.1.column _, c.requires.2)

pub overflow_step-i : goal.overflow_step-i
overflow_step-i c = omega (arith, c.requires.3, c.value_count-n.ensures, c.loop-i-test.true)

pub loop-i-smaller : goal.loop-i-smaller
loop-i-smaller c = omega (arith, c.loop-i-test.true)

pub loop-i-preserved : goal.loop-i-preserved
loop-i-preserved c = let a = c.args in (
  omega (arith, c.loop-i-test.true),
  λ d e. below-turn _ _ _ _ _ _ _ _ _ _ (c.loop-i.invariant.1 d e) c.lower_of-low.ensures (ap (λ (w : OwnedValue). O.Value w.pair) c.value_at-o.ensures)
      (value-has _ _ d _ e _ _ c.has-has.ensures ∙ ap (λ (w : OwnedValue). has_origin (scheme_of d) (database_of (cells_in a.rows.now.cells.now a.rows.now.issues.now) a.rows.now.tables.now) a.r (origin_of (O.Value w.pair))) c.value_at-o.ensures),
)

pub returns : goal.returns
unfolding lowest_of_values
returns c = below_end _ _ _ _ _ _ _ _ (omega (arith, c.loop-i.invariant.0, c.value_count-n.ensures)) (omega (arith, c.loop-i-test.false, c.value_count-n.ensures)) (c.loop-i.invariant.1 _ refl)
