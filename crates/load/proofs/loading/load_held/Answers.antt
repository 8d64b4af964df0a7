-- `load::loading::load_held` meets its contract: round 0, and the later rounds until enough rows are reached. Assumes nothing.
use Rattle.model.specs.Runs.{reload_levels}
use Rattle.load.proofs.EndedLaws.{ended-within}
use Rattle.load.proofs.StartLaws.{started-low}
use Rattle.load.proofs.loading.load_held.Goals as goal

pub close-growth-requires : goal.close-growth-requires
close-growth-requires c = let x = c.requires.catalogued.1 in
    record { in_range = (c.requires.in_range.0, started-low _ x.demands.links.size_is _ _ _ (c.begin_held.ensures _ x.index)); demands = (c.requires.catalogued.0, x.demands) }

pub returns : goal.returns
unfolding reload_levels
returns c = λ D x w.
    ended-within _ D x.demands.links.size_is _ _ _ _ _ _ (c.begin_held.ensures D x.index) w (c.close-growth.ensures D x.demands)
