-- `probe::held::is_held_by` meets its contract: the value, then the column. Assumes nothing.
use mathlib.Core.Path.{sym, ◌∙◌}
use Rattle.state.specs.Meaning.{scheme_of}
use Rattle.probe.proofs.GroundLaws.{one-column, one-other}
use Rattle.probe.proofs.held.is_held_by.Goals as goal

pub returns-then-same_cell : goal.returns-then-same_cell
unfolding scheme_of
returns-then-same_cell c = c.same_column.ensures ∙ one-column _ _ _ _ (sym c.same_cell.ensures ∙ c.if-same_cell.true)

pub returns-else-same_cell : goal.returns-else-same_cell
returns-else-same_cell c = c.if-same_cell.false ∙ one-other _ _ _ _ (sym c.same_cell.ensures ∙ c.if-same_cell.false)
