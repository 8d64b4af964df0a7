-- `change::causes::stands_at` meets its contract. Assumes nothing.
use mathlib.Core.Path.{sym, ap, ◌∙◌}
use Rattle.state.specs.Meaning.{scheme_of}
use Rattle.state.specs.Changes.{row_cell}
use Rattle.change.proofs.CauseLaws.{stood-found}
use Rattle.change.proofs.causes.stands_at.Goals as goal

pub returns-then-is_unique : goal.returns-then-is_unique
returns-then-is_unique c D h = stood-found (scheme_of c.args.d) _ _ _ _ _ (c.operand_cell-v.ensures ∙ ap (row_cell c.args.x) c.from.ensures) (sym c.if-is_unique.ensures) (c.find.ensures D h.directory)
