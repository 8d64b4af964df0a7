-- `desk::reporting::fill` meets its contract. The invariant: what has been printed so far with what is left is what was to be printed. Assumes nothing.
use native.Mathlib.Omega.{arith}
use mathlib.Core.Logic.{inl, ⊎_elim}
use Rattle.desk.proofs.TextLaws.{turns-less, printed-then}
use Rattle.desk.proofs.reporting.fill.Goals as goal

pub loop-p-smaller : goal.loop-p-smaller
loop-p-smaller c = let next = c.report_step-p.ensures.end_bound.1 in turns-less _ _ _ c.loop-p-test.true (λ e. ((next e).0, (next e).1))

pub loop-p-preserved : goal.loop-p-preserved
loop-p-preserved c = let j = c.loop-p in
    let next = c.report_step-p.ensures.end_bound in (
      printed-then _ _ _ _ _ _ _ _ _ _ _ _ _ j.invariant.0 c.report_step-p.ensures.printed,
      λ e. ((next.1 e).1, (next.1 e).2),
      λ e. let l = (next.1 e).0 in inl (⊎_elim (λ h. omega (arith, h, l)) (λ h. omega (arith, h.0, l)) (j.invariant.2 c.loop-p-test.true)),
      omega (arith, next.0, c.if-p-le-FULL.true),
      omega (arith, j.invariant.4, c.report_step-p.auto.words),
      omega (arith, j.invariant.5, c.report_step-p.auto.text),
      omega (arith, j.invariant.6, c.report_step-p.auto.out),
      c.report_step-p.ensures.catalogued,
    )
