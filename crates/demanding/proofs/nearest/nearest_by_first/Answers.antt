-- `demanding::nearest::nearest_by_first` meets its contract: row by row. Assumes nothing.
use Prim.Native.Nat.{◌+◌, ◌<◌}
use native.Mathlib.Omega.{arith}
use mathlib.Core.Path.{sym, subst, ◌∙◌}
use lib.ListN.{get_or}
use Rattle.std.proofs.lemmas.List.{get_or-take, length-take}
use Rattle.demanding.proofs.DemandingLaws.{Looked, looked-start, looked-past, looked-on, looked-done}
use Rattle.demanding.proofs.nearest.nearest_by_first.Goals as goal
use Rattle.demanding.proofs.nearest.nearest_by_first.Goals.{then-f-lt-ROWS, else-f-lt-ROWS}

pub loop-row-init : goal.loop-row-init
loop-row-init c = (omega arith, λ S D x l. looked-start S D _ _ _ _ c.requires.1)

pub loop-row-preserved : goal.loop-row-preserved
loop-row-preserved c = let a = c.args in let r = c.args.reached.now in let k = c.loop-row.row-index in
    let t : k < r.count = omega (arith, length-take r.count r.rows) in
    let s = c.wide-s.ensures ∙ get_or-take r.count r.rows k 0 t in (
      omega arith,
      λ S D x l.
          let v = c.loop-row.invariant.1 S D x l in
          let f = c.first_row-f.ensures S D x l in
          elim c.if-f-lt-ROWS.branch [
            | then-f-lt-ROWS w ↦
                subst (Looked S D a.levels.now a.i (get_or r.rows (k + 1) 0)) (sym w.best-is)
                (looked-on S D _ _ _ _ c.requires.1 _ t _ v _ s _ f w.if-f-lt-ROWS.true _ w.nearer.ensures)
            | else-f-lt-ROWS w ↦
                subst (Looked S D a.levels.now a.i (get_or r.rows (k + 1) 0)) (sym w.best-is)
                (looked-past S D _ _ _ _ c.requires.1 _ t _ v _ s _ f w.if-f-lt-ROWS.false)
          ],
    )

pub returns : goal.returns
returns c = let r = c.args.reached.now in
    λ S D x l. looked-done S D _ _ _ _ c.requires.1 _ _ c.loop-row.invariant.0 (omega (arith, c.loop-row-test.false, length-take r.count r.rows, c.requires.1.few)) (c.loop-row.invariant.1 S D x l)
