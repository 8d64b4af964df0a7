-- `reason::nearing::list_levels` meets its contract. The invariant: the rows from s on are listed. Assumes nothing.
use Prim.Native.Nat.{ℕ, ◌-◌}
use lib.ListN.{length-replicate}
use Rattle.reason.proofs.LinkLaws.{ranked-none, ranked-past, ranked-more, ranked-end}
use mathlib.Core.Path.{refl}
use native.Mathlib.Omega.{arith}
use Rattle.reason.proofs.nearing.list_levels.Goals as goal

pub loop-s-init : goal.loop-s-init
loop-s-init c = (omega arith, ranked-none _ _ _ (length-replicate {A = ℕ} 514 512) (length-replicate {A = ℕ} 512 512) refl)

pub offset_bounds-heads-l : goal.offset_bounds-heads-l
offset_bounds-heads-l c = omega (arith, c.from-l.ensures, c.requires (c.loop-s.s - 1) (omega (arith, c.loop-s.invariant.0, c.loop-s-test.true)))

pub bounds-heads-l : goal.bounds-heads-l
bounds-heads-l c = omega (arith, c.from-l.ensures, c.requires (c.loop-s.s - 1) (omega (arith, c.loop-s.invariant.0, c.loop-s-test.true)))

pub offset_bounds-heads-l-then-l-gt0 : goal.offset_bounds-heads-l-then-l-gt0
offset_bounds-heads-l-then-l-gt0 c = omega (arith, c.from-l.ensures, c.requires (c.loop-s.s - 1) (omega (arith, c.loop-s.invariant.0, c.loop-s-test.true)))

pub bounds-heads-l-then-l-gt0 : goal.bounds-heads-l-then-l-gt0
bounds-heads-l-then-l-gt0 c = omega (arith, c.from-l.ensures, c.requires (c.loop-s.s - 1) (omega (arith, c.loop-s.invariant.0, c.loop-s-test.true)))

pub loop-s-preserved-then-l-gt0 : goal.loop-s-preserved-then-l-gt0
loop-s-preserved-then-l-gt0 c = let w = c.loop-s.invariant in
    let t = c.loop-s-test.true in
    (omega arith, ranked-more _ _ t w.0 _ _ w.1 _ c.from-l.ensures c.if-l-gt0.true (omega (arith, c.from-l.ensures, c.requires (c.loop-s.s - 1) (omega (arith, w.0, t)))))

pub loop-s-preserved : goal.loop-s-preserved
loop-s-preserved c = let w = c.loop-s.invariant in
    (omega arith, ranked-past _ _ c.loop-s-test.true w.0 _ _ w.1 (omega (arith, c.from-l.ensures, c.if-l-gt0.false)))

pub returns : goal.returns
returns c = ranked-end _ _ _ _ c.loop-s-test.false c.loop-s.invariant.1
