-- `format::reading::with_filling` meets its contract. Assumes nothing.
use mathlib.Core.Path.{refl}
use Rattle.format.specs.Reading.{with_filling}
use Rattle.format.proofs.reading.with_filling.Goals as goal

pub returns : goal.returns
unfolding with_filling
returns c = refl
