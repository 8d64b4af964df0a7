-- `opener::giving::source_rows` meets its contract. Assumes nothing.
use Rattle.opener.proofs.MarkingLaws.{mark-all, mark-not, mark-start, mark-next, mark-last}
use Rattle.state.specs.Meaning.{cell_of, column_of, constraint_of}
use Rattle.state.specs.Design.{constraint_at}
use Rattle.model.specs.Database.{has}
use Rattle.model.specs.Scheme.{same_column}
use lib.ListN.{length-replicate}
use mathlib.Core.Bool.{Bool, false, ◌&&◌}
use Rattle.opener.proofs.giving.source_rows.Goals.{then-same_column, else-same_column}
use mathlib.Core.Path.{refl, sym}
use native.Mathlib.Omega.{arith}
use Rattle.opener.proofs.giving.source_rows.Goals as goal

pub loop-i-init : goal.loop-i-init
loop-i-init c = let a = c.args in
    (omega arith, refl, length-replicate {A = Bool} 512 false, λ D x. mark-start (λ i r. same_column (constraint_of (constraint_at a.d i)).target (column_of a.k) && has D (constraint_of (constraint_at a.d i)).source (cell_of a.v) r))

pub loop-i-preserved : goal.loop-i-preserved
loop-i-preserved c = let a = c.args in
    let v = c.loop-i.invariant in
    let i = c.loop-i.i in (
      omega arith,
      v.1,
      c.if-same_column.array_long,
      λ D y.
          mark-next i (λ n r. same_column (constraint_of (constraint_at a.d n)).target (column_of a.k) && has D (constraint_of (constraint_at a.d n)).source (cell_of a.v) r)
          c.loop-i.seed c.if-same_column.seed (v.3 D y)
          (elim c.if-same_column.branch [
            | then-same_column w ↦ mark-all _ (has D (constraint_of (constraint_at a.d i)).source (cell_of a.v)) _ _ _ w.seed-is (sym w.if-same_column.ensures) (w.mark_having.ensures D y v.2)
            | else-same_column w ↦ mark-not _ (has D (constraint_of (constraint_at a.d i)).source (cell_of a.v)) _ _ w.seed-is (sym w.if-same_column.ensures)
          ]),
    )

pub returns : goal.returns
returns c = let a = c.args in
    let v = c.loop-i.invariant in (
      v.2,
      λ D y.
          mark-last _ _ (λ i r. same_column (constraint_of (constraint_at a.d i)).target (column_of a.k) && has D (constraint_of (constraint_at a.d i)).source (cell_of a.v) r) c.loop-i.seed
          (omega (arith, v.0, v.1)) (omega (arith, c.loop-i-test.false, v.1)) (v.3 D y),
    )
