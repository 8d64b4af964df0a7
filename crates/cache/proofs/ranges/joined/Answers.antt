-- `cache::ranges::joined` meets its contract: what is put so far, and what joining still makes of the rest, are what joining makes of all. Assumes nothing.
use native.Mathlib.Omega.{arith}
use mathlib.Core.Bool.{true, false}
use mathlib.Core.List.{List, [], ◌∷◌}
use mathlib.Core.Path.{refl, ap, sym, ◌∙◌}
use Rattle.model.specs.Ranges.{Range, joined}
use Rattle.state.specs.declared.held.DeskRanges.{DeskRanges}
use Rattle.state.specs.Meaning.{range_of}
use Rattle.cache.proofs.RangeRecord.{none-back, none-few, rest-cons, rest-none, done-start, done-same, done_more, done-out, done-join, join-behind, join-end}
use Rattle.cache.proofs.ranges.joined.Goals as goal
use Rattle.cache.proofs.ranges.joined.Goals.{then-stands_before, else-stands_before}

pub loop-i-init : goal.loop-i-init
loop-i-init c = (omega arith, none-few _ c.none-out.ensures, done-start [] _ _ (c.none-out.ensures ∙ none-back))

pub put-t-requires : goal.put-t-requires
put-t-requires c = omega (arith, c.loop-i.invariant.1, c.loop-i-test.true, c.requires)

pub with_rest-requires : goal.with_rest-requires
with_rest-requires c = (c.requires, omega (arith, c.loop-i-test.true), omega (arith, c.loop-i.invariant.1, c.put-t.ensures.0))

pub returns-then-is_behind : goal.returns-then-is_behind
returns-then-is_behind c = let s = c in
    let next = rest-cons s.args.s _ c.loop-i-test.true in
    done-out _ _ _ _ _
    (done_more _ _ _ _ _
    (done-same _ _ _ _ c.loop-i.invariant.2
    (ap (joined (range_of c.loop-i.whole)) next ∙ join-behind (range_of c.loop-i.whole) _ _ (sym c.is_behind.ensures ∙ c.if-is_behind.true) ∙
    ap (λ (rs : List Range). range_of c.loop-i.whole ∷ rs) (sym next))) c.put-t.ensures.1) refl c.with_rest.ensures

pub put-out-requires : goal.put-out-requires
put-out-requires c = omega (arith, c.loop-i.invariant.1, c.loop-i-test.true, c.requires)

pub loop-i-preserved : goal.loop-i-preserved
loop-i-preserved c = let v = c.loop-i.invariant in
    let next = done-same _ _ _ _ v.2 (ap (joined (range_of c.loop-i.whole)) (rest-cons c.args.s _ c.loop-i-test.true)) in
    let apart = sym c.is_behind.ensures ∙ c.if-is_behind.false in
    elim c.if-stands_before.branch [
      | then-stands_before a ↦ (
        omega (arith, c.loop-i-test.true),
        omega (arith, v.1, ap (λ (t : DeskRanges). t.count) a.out-is, a.put-out.ensures.0),
        done-join _ _ _ _ _ true _ _ next (sym a.if-stands_before.true ∙ c.stands_before.ensures) apart (λ rs e. a.out-is ∙ a.put-out.ensures.1 rs e) (ap range_of a.whole-is),
      )
      | else-stands_before a ↦ (
        omega (arith, c.loop-i-test.true),
        omega (arith, v.1, ap (λ (t : DeskRanges). t.count) a.out-is),
        done-join _ _ _ _ _ false _ _ next (sym a.if-stands_before.false ∙ c.stands_before.ensures) apart (λ rs e. a.out-is ∙ e) (ap range_of a.whole-is ∙ a.hull-whole.ensures),
      )
    ]

pub put-requires : goal.put-requires
put-requires c = omega (arith, c.loop-i.invariant.1, c.loop-i.invariant.0, c.requires)

pub returns : goal.returns
returns c = let v = c.loop-i.invariant in
    done-out _ _ _ _ _ v.2
    (ap (joined (range_of c.loop-i.whole)) (rest-none c.args.s _ v.0 c.loop-i-test.false) ∙ join-end (range_of c.loop-i.whole)) c.put.ensures.1
