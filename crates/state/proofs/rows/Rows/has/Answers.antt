use native.Mathlib.Omega.{arith}
use mathlib.Core.Path.{sym, ◌∙◌}
use Rattle.state.proofs.RowLaws.{has-cell, has-none}
use Rattle.state.proofs.rows.Rows.has.Goals as goal

pub returns-then-is_row_of : goal.returns-then-is_row_of
returns-then-is_row_of c = c.same_cell.ensures
    ∙ has-cell _ _ _ _ _ (omega arith) (omega arith) _ (rw c.from.ensures at c.cell_at.ensures) (sym (c.is_row_of.ensures _) ∙ c.if-is_row_of.true)

pub returns-else-is_row_of : goal.returns-else-is_row_of
returns-else-is_row_of c = c.if-is_row_of.false ∙ has-none _ _ _ _ _ (omega arith) (omega arith) (sym (c.is_row_of.ensures _) ∙ c.if-is_row_of.false)
