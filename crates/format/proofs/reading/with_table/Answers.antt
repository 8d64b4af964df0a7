-- `format::reading::with_table` meets its contract. Assumes nothing.
use mathlib.Core.Path.{refl}
use Rattle.format.specs.Reading.{with_table}
use Rattle.format.proofs.reading.with_table.Goals as goal

pub returns : goal.returns
unfolding with_table
returns c = refl
