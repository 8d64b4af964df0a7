-- `catalog::reading::next_row` meets its contract: the link that stands there. Assumes nothing.
use Rattle.catalog.proofs.Entries.{link_at}
use Rattle.catalog.proofs.reading.next_row.Goals as goal

pub returns : goal.returns
returns c = λ D l. link_at D _ l _ _ _ c.requires.0 c.requires.1 c.wide.ensures
