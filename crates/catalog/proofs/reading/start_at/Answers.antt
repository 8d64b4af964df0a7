-- `catalog::reading::start_at` meets its contract: a place of a part. Assumes nothing.
use mathlib.Core.Path.{sym, ◌∙◌}
use Rattle.catalog.proofs.PartLaws.{part_at}
use Rattle.catalog.proofs.reading.start_at.Goals as goal

pub returns : goal.returns
returns c = c.wide.ensures ∙ sym (part_at _ _ _ _ c.requires)
