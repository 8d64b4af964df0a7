-- `probe::held::is_held_in` meets its contract: the range, then the column. Assumes nothing.
use mathlib.Core.Path.{sym, ◌∙◌}
use Rattle.probe.proofs.GroundLaws.{range-column, range_other}
use Rattle.state.specs.Meaning.{cell_of, column_of, range_of, scheme_of}
use Rattle.probe.proofs.held.is_held_in.Goals as goal

pub returns-then-in_range : goal.returns-then-in_range
unfolding scheme_of
returns-then-in_range c = let s = c.args in
    c.same_column.ensures ∙
    range-column (scheme_of s.d.now) (range_of s.r) (column_of s.k) (cell_of s.v) (sym c.in_range.ensures ∙ c.if-in_range.true)

pub returns-else-in_range : goal.returns-else-in_range
returns-else-in_range c = c.if-in_range.false ∙ range_other _ _ _ _ (sym c.in_range.ensures ∙ c.if-in_range.false)
