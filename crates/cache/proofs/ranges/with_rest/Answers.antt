-- `cache::ranges::with_rest` meets its contract: the ranges from a place on are put behind the others one by one. Assumes nothing.
use Prim.Native.Nat.{ℕ, ◌+◌, ◌-◌, ◌<◌, ◌≤◌}
use native.Mathlib.Omega.{arith}
use mathlib.Core.List.{[], ◌∷◌, ◌++◌}
use mathlib.Core.Path.{ap, ◌∙◌}
use lib.ListN.{drop}
use Rattle.std.proofs.lemmas.List.{get_or-take, get_or-drop, length-take, length-drop}
use Rattle.state.specs.declared.held.Range.{Range}
use Rattle.state.specs.Held.{no_range}
use Rattle.state.specs.Meaning.{list_back, list_of, range_of}
use Rattle.state.proofs.Arrays.{ranges-sized}
use Rattle.cache.proofs.RangeRecord.{done-start, done-same, done_more, done_end, rest-cons, rest-none}
use Rattle.cache.proofs.ranges.with_rest.Goals as goal

pub loop-q-init : goal.loop-q-init
loop-q-init c = (
  omega arith,
  omega arith,
  λ rs e. done-same _ _ _ _ (done-start rs _ _ e) (ap (λ (n : ℕ). drop n (list_of c.args.s)) (omega arith)),
)

pub put-t-requires : goal.put-t-requires
put-t-requires c = let s = c.args in omega (arith, c.loop-q.invariant.1, length-take (s.s.count - s.i) (drop s.i s.s.list))

pub loop-q-preserved : goal.loop-q-preserved
loop-q-preserved c = let v = c.loop-q.invariant in let s = c.args in let q = c.loop-q.q-index in
    let few : q < s.s.count - s.i = omega (arith, length-take (s.s.count - s.i) (drop s.i s.s.list)) in (
      omega arith,
      omega (arith, v.1, c.put-t.ensures.0),
      λ rs e. done-same _ _ _ _
          (done_more _ _ _ _ _ (done-same _ _ _ _ (v.2 rs e) (rest-cons s.s (s.i + q) (omega arith)))
          (λ ps p. c.put-t.ensures.1 ps p ∙
          ap (λ (x : Range). list_back (ps ++ (range_of x ∷ []))) (get_or-take (s.s.count - s.i) (drop s.i s.s.list) q no_range few ∙ get_or-drop s.i s.s.list q no_range)))
          (ap (λ (n : ℕ). drop n (list_of s.s)) (omega arith)),
    )

pub returns : goal.returns
returns c = let v = c.loop-q.invariant in let s = c.args in
    let end : s.s.count ≤ s.i + c.loop-q.q-index =
    omega (arith, c.loop-q-test.false, length-take (s.s.count - s.i) (drop s.i s.s.list), length-drop s.i s.s.list, ranges-sized s.s _ c.well_formed.1.0) in
    λ rs e. done_end _ _ _ (v.2 rs e) (rest-none s.s _ v.0 end)
