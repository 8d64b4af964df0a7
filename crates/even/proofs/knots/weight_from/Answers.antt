-- `even::knots::weight_from` meets its contract. Assumes nothing.
use Rattle.even.proofs.KnotCode.{lowest-none, lowest-more, cheap-far, with-walk, weight-end}
use Rattle.even.proofs.LinkLaws.{laid}
use Rattle.even.specs.Walks.{weight_from}
use Rattle.state.specs.Meaning.{scheme_of}
use native.Mathlib.Omega.{arith}
use Rattle.even.proofs.knots.weight_from.Goals as goal

pub loop-j-init : goal.loop-j-init
loop-j-init c = (omega arith, λ S l h. lowest-none _)

pub bounds-costs-at : goal.bounds-costs-at
bounds-costs-at c = let s = c in omega (arith, c.cost_at-at.ensures, s.requires.0.target-table c.loop-j.j, s.requires.0.source-table s.args.i)

pub weight_with-w-requires : goal.weight_with-w-requires
weight_with-w-requires c = let s = c in (s.requires.1, omega (arith, c.loop-j-test.true, s.requires.0.constraints), cheap-far _ _ _ s.requires.2 _)

pub loop-j-preserved : goal.loop-j-preserved
loop-j-preserved c = let s = c in (
  omega arith,
  λ S l h.
      lowest-more _ _ (c.loop-j.invariant.1 S l h)
      (with-walk S _ _ l _ _ _ h (s.requires.0.source-table _) (s.requires.0.target-table _) _ _ c.cost_at-at.ensures c.weight_with-w.ensures) c.min-least.ensures,
)

pub returns : goal.returns
unfolding weight_from
returns c = let d = c.args.d in
    weight-end d _ _ _ c.loop-j.invariant.0 c.loop-j-test.false (c.loop-j.invariant.1 (scheme_of d) (laid d) c.requires.2)
