-- `load::seeding::load_rows` meets its contract: round 0, and the later rounds to the end. Assumes nothing.
use Rattle.load.proofs.EndedLaws.{ended-load}
use Rattle.load.proofs.StartLaws.{started-low}
use Rattle.load.proofs.seeding.load_rows.Goals as goal

pub close-requires : goal.close-requires
close-requires c = let x = c.requires.demands.1 in
    record { in_range = (c.requires.in_range, started-low c.requires.demands.0 x.links.size_is _ _ _ (c.begin_rows.ensures c.requires.demands.0 x.links.size_is)); demands = c.requires.demands }

pub returns : goal.returns
returns c = λ D x. let z = x.links.size_is in (ended-load _ D z _ _ _ _ _ _ (c.begin_rows.ensures D z) (c.close.ensures D x)).0
