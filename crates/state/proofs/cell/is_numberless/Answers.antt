-- `state::cell::is_numberless` meets its contract, by definition. Assumes nothing.
use mathlib.Core.Path.{refl}
use Rattle.model.specs.Cell.{numberless}
use Rattle.state.proofs.cell.is_numberless.Goals as goal

pub returns : goal.returns
unfolding numberless
returns c = refl
