-- `reason::linking::find_links` meets its contract. The invariant: the links down to distance k are noted, and row s stands there. Assumes nothing.
use Prim.Native.Nat.{ℕ}
use lib.ListN.{length-replicate}
use Rattle.catalog.proofs.MakingLaws.{size-lent}
use Rattle.reason.proofs.LinkLaws.{noted-start, noted_more, noted-end, ranked-fewer, scheme-count}
use Rattle.reason.proofs.Composing.{constraint-below, row_below, row-nearer}
use mathlib.Core.Path.{refl}
use native.Mathlib.Omega.{arith}
use Rattle.reason.proofs.linking.find_links.Goals as goal

pub loop-k-init : goal.loop-k-init
loop-k-init c = noted-start _ _ _ _ _ _ _ c.requires.in_range.1 c.requires.ranked.2 (length-replicate {A = ℕ} 512 0) (length-replicate {A = ℕ} 512 0)

pub last_link-link-requires : goal.last_link-link-requires
last_link-link-requires c = let w = c.loop-k.invariant in
    let o = c.loop-k-test.true in
    record { in_range = (c.requires.in_range.0, refl, w.row, omega (arith, w.few, c.requires.in_range.2, o), c.requires.in_range.3); ranked = (ranked-fewer _ _ _ _ c.requires.ranked.0 _ (omega (arith, w.few, o)), c.requires.ranked.1, omega (arith, w.away, o)) }

pub overflow_cast-by : goal.overflow_cast-by
overflow_cast-by c = let w = c.loop-k.invariant in
    let o = c.loop-k-test.true in
    omega (arith, constraint-below _ _ _ _ _ (λ z. omega (arith, z, o)) _ _ c.last_link-link.ensures.0 c.last_link-link.ensures.1 c.requires.ranked.1 w.away, scheme-count c.args.d, c.requires.in_range.0.constraints)

pub offset_bounds-by-k : goal.offset_bounds-by-k
offset_bounds-by-k c = omega (arith, c.loop-k.invariant.few, c.requires.in_range.2)

pub bounds-by-k : goal.bounds-by-k
bounds-by-k c = omega (arith, c.loop-k.invariant.few, c.loop-k.invariant.wide, c.requires.in_range.2)

pub overflow_cast-from : goal.overflow_cast-from
overflow_cast-from c = let w = c.loop-k.invariant in
    let o = c.loop-k-test.true in
    omega (arith, row_below _ _ _ _ _ (λ z. omega (arith, z, o)) _ _ c.last_link-link.ensures.0 c.last_link-link.ensures.1 c.requires.ranked.1 w.away (size-lent _ _))

pub offset_bounds-from-k : goal.offset_bounds-from-k
offset_bounds-from-k c = omega (arith, c.loop-k.invariant.few, c.requires.in_range.2)

pub bounds-from-k : goal.bounds-from-k
bounds-from-k c = omega (arith, c.loop-k.invariant.few, c.loop-k.invariant.long, c.requires.in_range.2)

pub loop-k-preserved : goal.loop-k-preserved
loop-k-preserved c = let w = c.loop-k.invariant in
    let o = c.loop-k-test.true in
    noted_more _ _ _ _ _ _ _ _ _ w _ _ o (omega (arith, w.few, c.requires.in_range.2)) c.last_link-link.ensures.0 c.last_link-link.ensures.1
    (row_below _ _ _ _ _ (λ z. omega (arith, z, o)) _ _ c.last_link-link.ensures.0 c.last_link-link.ensures.1 c.requires.ranked.1 w.away (size-lent _ _))
    (row-nearer _ _ _ _ _ (λ z. omega (arith, z, o)) _ _ c.last_link-link.ensures.0 c.last_link-link.ensures.1 c.requires.ranked.1 w.away)

pub returns : goal.returns
returns c = noted-end _ _ _ _ _ _ _ _ _ c.loop-k.invariant (omega (arith, c.loop-k-test.false))
