-- `change::storing::free_row` meets its contract. Assumes nothing.
use mathlib.Core.Path.{refl}
use Rattle.finite.specs.Finite.{tab}
use Rattle.change.proofs.storing.free_row.Goals as goal

pub returns : goal.returns
unfolding tab
returns c = refl
