-- `writing::lengths::is_live_issued` meets its contract. Assumes nothing.
use mathlib.Core.Path.{sym, ◌∙◌}
use Rattle.finite.proofs.Bools.{and-go, and-stop}
use Rattle.state.specs.Cells.{cells_in}
use Rattle.writing.proofs.lengths.is_live_issued.Goals as goal

pub returns-then-is_live : goal.returns-then-is_live
returns-then-is_live c = λ numbers. and-go _ _ (sym (c.is_live.ensures (cells_in numbers _)) ∙ c.if-is_live.true) (c.is_issued.ensures numbers)

pub returns-else-is_live : goal.returns-else-is_live
returns-else-is_live c = λ numbers. c.if-is_live.false ∙ and-stop _ _ (sym (c.is_live.ensures (cells_in numbers _)) ∙ c.if-is_live.false)
