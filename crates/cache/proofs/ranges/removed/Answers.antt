-- `cache::ranges::removed` meets its contract: the ranges before the one that goes are put one by one, and the others behind them. Assumes nothing.
use native.Mathlib.Omega.{arith}
use mathlib.Core.List.{[]}
use mathlib.Core.Path.{ap, sym, ◌∙◌}
use Rattle.finite.specs.Sameness.{remove}
use Rattle.model.specs.Ranges.{same_range}
use Rattle.state.specs.Meaning.{range_of}
use Rattle.cache.proofs.RangeRecord.{none-back, none-few, rest-cons, rest-none, done-start, done-same, done_more, done-out, done_end, remove-here, remove-later, remove-end}
use Rattle.cache.proofs.ranges.removed.Goals as goal

pub loop-i-init : goal.loop-i-init
loop-i-init c = (omega arith, none-few _ c.none-out.ensures, done-start [] _ _ (c.none-out.ensures ∙ none-back))

pub with_rest-requires : goal.with_rest-requires
with_rest-requires c = (c.requires, omega (arith, c.loop-i-test.true), omega (arith, c.loop-i.invariant.1))

pub returns-then-same_range : goal.returns-then-same_range
returns-then-same_range c = let s = c in
    done-out _ _ _ _ _ c.loop-i.invariant.2
    (ap (remove same_range (range_of s.args.r)) (rest-cons s.args.s _ c.loop-i-test.true) ∙
    remove-here (range_of s.args.r) _ _ (sym c.same_range.ensures ∙ c.if-same_range.true)) c.with_rest.ensures

pub put-out-requires : goal.put-out-requires
put-out-requires c = omega (arith, c.loop-i.invariant.1, c.loop-i-test.true, c.requires)

pub loop-i-preserved : goal.loop-i-preserved
loop-i-preserved c = let s = c in
    let v = c.loop-i.invariant in (
      omega (arith, c.loop-i-test.true),
      omega (arith, v.1, c.put-out.ensures.0),
      done_more _ _ _ _ _
          (done-same _ _ _ _ v.2
          (ap (remove same_range (range_of s.args.r)) (rest-cons s.args.s _ c.loop-i-test.true) ∙
          remove-later (range_of s.args.r) _ _ (sym c.same_range.ensures ∙ c.if-same_range.false))) c.put-out.ensures.1,
    )

pub returns : goal.returns
returns c = let s = c in
    let v = c.loop-i.invariant in
    done_end _ _ _ v.2
    (ap (remove same_range (range_of s.args.r)) (rest-none s.args.s _ v.0 c.loop-i-test.false) ∙ remove-end (range_of s.args.r))
