-- `catalog::reading::first_row` meets its contract: the demanded row that stands there. Assumes nothing.
use Rattle.catalog.proofs.Entries.{demand-at}
use Rattle.catalog.proofs.reading.first_row.Goals as goal

pub returns : goal.returns
returns c = λ S D l. demand-at S D _ l _ _ _ c.requires.0 c.requires.1 c.wide.ensures
