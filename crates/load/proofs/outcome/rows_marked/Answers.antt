-- `load::outcome::rows_marked` meets its contract: a loop that counts. Assumes nothing.
use Prim.Native.Nat.{ℕ, ◌<◌}
use native.Mathlib.Omega.{arith}
use mathlib.Core.Path.{ap, sym, ◌∙◌}
use borrow.Author.Tests.{eq-eqb, ne_eqb}
use lib.Dec.{eqb}
use Rattle.std.proofs.lemmas.List.{get_or-take, length-take}
use Rattle.finite.proofs.Counting.{count-end, count-hit, count-miss, count-start}
use Rattle.model.specs.Runs.{marked}
use Rattle.load.proofs.outcome.rows_marked.Goals as goal
use Rattle.load.proofs.outcome.rows_marked.Goals.{then-mark-eq1, else-mark-eq1}

pub loop-mark-init : goal.loop-mark-init
loop-mark-init c = (omega arith, omega arith, count-start _)

pub loop-mark-preserved : goal.loop-mark-preserved
unfolding marked
loop-mark-preserved c = let e = c.loop-mark.invariant.2 in
    let m = c.args.marks.now in
    let k = c.loop-mark.mark-index in
    let t : k < 512 = omega (arith, length-take 512 m, c.requires) in
    let s = ap (λ (x : ℕ). eqb x 1) (sym (get_or-take 512 m k 0 t)) in
    elim c.if-mark-eq1.branch [
      | then-mark-eq1 w ↦ (omega arith, omega (arith, w.n-is), w.n-is ∙ count-hit _ _ _ e (s ∙ eq-eqb _ _ w.if-mark-eq1.true))
      | else-mark-eq1 w ↦ (omega arith, omega (arith, w.n-is), w.n-is ∙ count-miss _ _ _ e (s ∙ ne_eqb _ _ w.if-mark-eq1.false))
    ]

pub returns : goal.returns
returns c = count-end _ _ _ _ c.loop-mark.invariant.0 (omega (arith, c.loop-mark-test.false, length-take 512 c.args.marks.now, c.requires)) c.loop-mark.invariant.2
