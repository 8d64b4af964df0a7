-- `load::loading::load_range` meets its contract: round 0, and the later rounds to the end. Assumes nothing.
use mathlib.Core.Path.{refl}
use Rattle.load.proofs.EndedLaws.{ended-load}
use Rattle.load.proofs.StartLaws.{start-raised, started-low}
use Rattle.load.proofs.loading.load_range.Goals as goal

pub close-growth-requires : goal.close-growth-requires
close-growth-requires c = let x = c.requires.catalogued.1 in
    let g = c.add_range.ensures _ x.index in
    let z = x.demands.links.size_is in
    record { in_range = (c.requires.in_range.0, started-low c.requires.catalogued.0 z _ _ _ (start-raised _ _ c.begin_beside.ensures.0 c.requires.catalogued.0 z _ _ _ g.levels (λ r l. refl))); demands = (c.requires.catalogued.0, x.demands) }

pub returns : goal.returns
returns c = λ D x.
    let s = c in
    let g = s.add_range.ensures D x.index in
    let z = x.demands.links.size_is in
    ended-load _ D z _ _ _ _ _ _ (start-raised _ _ s.begin_beside.ensures.0 D z _ _ _ g.levels (λ r l. refl)) (s.close-growth.ensures D x.demands)
