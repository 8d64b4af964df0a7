-- `change::changing::is_called` meets its contract: by the lowest ground. Assumes nothing.
use mathlib.Core.Path.{sym, ap, ◌∙◌}
use borrow.Author.Tests.{eq-eqb}
use Rattle.state.specs.Changes.{row_cell}
use Rattle.change.proofs.ComingLaws.{called-blank, called-first, called-second}
use Rattle.change.proofs.changing.is_called.Goals as goal

pub returns-then-is_blank : goal.returns-then-is_blank
returns-then-is_blank c D i = called-blank _ D _ _ c.args.x _ _ (c.operand_cell-v.ensures ∙ ap (row_cell c.args.x) c.from.ensures) (sym c.if-is_blank.ensures)

pub returns-then-found-eq1 : goal.returns-then-found-eq1
returns-then-found-eq1 c D i = eq-eqb _ _ c.if-found-eq1.true ∙ called-first _ D _ _ c.args.x _ _ (c.operand_cell-v.ensures ∙ ap (row_cell c.args.x) c.from.ensures) (sym c.if-is_blank.ensures) _ (c.search-found.ensures D i).0 c.if-found-eq1.true

pub returns-else-found-eq1 : goal.returns-else-found-eq1
returns-else-found-eq1 c D i = called-second _ D _ _ c.args.x _ _ (c.operand_cell-v.ensures ∙ ap (row_cell c.args.x) c.from.ensures) (sym c.if-is_blank.ensures) _ (c.search-found.ensures D i).0 c.if-found-eq1.false
