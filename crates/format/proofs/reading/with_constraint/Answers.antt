-- `format::reading::with_constraint` meets its contract. Assumes nothing.
use mathlib.Core.Path.{refl}
use Rattle.format.specs.Reading.{with_constraint}
use Rattle.format.proofs.reading.with_constraint.Goals as goal

pub returns : goal.returns
unfolding with_constraint
returns c = refl
