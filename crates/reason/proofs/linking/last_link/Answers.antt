-- `reason::linking::last_link` meets its contract. The invariant: the best so far is the lowest link that comes from a row below s. Assumes nothing.
use Prim.Native.Nat.{◌+◌}
use Rattle.catalog.proofs.MakingLaws.{size-lent}
use Rattle.reason.proofs.LinkLaws.{of-level, ranked-next, places-within, design-none, design-few, design-next, lowest-constraint, lowest-row}
use mathlib.Core.Path.{refl, ◌∙◌}
use native.Mathlib.Omega.{arith}
use Rattle.reason.proofs.linking.last_link.Goals as goal

pub loop-s-init : goal.loop-s-init
loop-s-init c = let n = c.args.n in
    let e = c.from-s.ensures ∙ c.requires.ranked.0.head (n + 2) (omega arith) (omega arith) in
    let f = of-level c.args.levels.now (n + 2) 0 _ (omega arith) e in
    (f.0, f.1, λ d a b. design-none d _ a _ _ _ _ _ _ b e)

pub first_constraint-i-requires : goal.first_constraint-i-requires
first_constraint-i-requires c = let w = c.loop-s.invariant.2 c.args.d c.requires.in_range.1 refl in
    let f = design-few _ _ c.requires.in_range.1 _ _ _ _ _ _ _ w in
    record { most_bound = (omega (arith, f, c.requires.in_range.0.constraints), c.loop-s-test.true, c.requires.in_range.2, c.requires.in_range.4); by_index = places-within _ _ c.requires.in_range.1 c.requires.in_range.0 }

pub loop-s-smaller : goal.loop-s-smaller
loop-s-smaller c = let n = c.args.n in
    let s = c.loop-s.s in
    let h = c.loop-s-test.true in
    let w = c.loop-s.invariant in
    let e = ranked-next _ _ _ _ c.requires.ranked.0 (n + 2) s _ h (w.1 h) (omega arith) (omega arith) c.from-s-in-loop-s.ensures in
    omega (arith, (of-level c.args.levels.now (n + 2) (s + 1) _ (omega (arith, h)) e).2, h)

pub loop-s-preserved : goal.loop-s-preserved
loop-s-preserved c = let n = c.args.n in
    let s = c.loop-s.s in
    let h = c.loop-s-test.true in
    let w = c.loop-s.invariant in
    let e = ranked-next _ _ _ _ c.requires.ranked.0 (n + 2) s _ h (w.1 h) (omega arith) (omega arith) c.from-s-in-loop-s.ensures in
    let f = of-level c.args.levels.now (n + 2) (s + 1) _ (omega (arith, h)) e in
    (f.0, f.1, λ d a b. design-next d _ a _ _ _ _ _ _ _ _ _ c.lower_link-best.ensures h (w.1 h) (w.2 d a b) e c.first_constraint-i.ensures)

pub returns : goal.returns
returns c = let w = c.loop-s.invariant in
    let x = w.2 c.args.d c.requires.in_range.1 refl in (
      lowest-constraint _ _ _ _ _ (size-lent _ _) c.requires.ranked.1 c.requires.ranked.2 _ _ _ c.loop-s-test.false w.0 x,
      lowest-row _ _ _ _ _ (size-lent _ _) c.requires.ranked.1 c.requires.ranked.2 _ _ _ c.loop-s-test.false w.0 x,
    )
