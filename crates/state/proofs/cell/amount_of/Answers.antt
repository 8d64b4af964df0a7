-- `state::cell::amount_of` meets its contract, by definition. Assumes nothing.
use mathlib.Core.Path.{refl}
use Rattle.model.specs.Cell.{amount}
use Rattle.state.proofs.cell.amount_of.Goals as goal

pub returns : goal.returns
unfolding amount
returns c = refl
