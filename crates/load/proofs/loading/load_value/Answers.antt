-- `load::loading::load_value` meets its contract: round 0, and the later rounds to the end. Assumes nothing.
use native.Mathlib.Omega.{arith}
use Rattle.load.proofs.AlongLaws.{along-has, begins-has}
use Rattle.load.proofs.EndedLaws.{ended-load}
use Rattle.load.proofs.StartLaws.{start-raised, started-low}
use Rattle.load.proofs.loading.load_value.Goals as goal

pub walk-requires : goal.walk-requires
walk-requires c = let x = c.requires.catalogued.1.index in
    record { place_bound = (omega (arith, c.from.ensures, c.requires.in_range.2), omega arith); links = (c.requires.catalogued.0, x.links, begins-has _ _ _ _ (c.find.ensures _ x.directory) _ c.from.ensures) }

pub close-growth-requires : goal.close-growth-requires
close-growth-requires c = let x = c.requires.catalogued.1 in
    let f = c.find.ensures _ x.index.directory in
    let g = c.walk.ensures _ x.index.links (begins-has _ _ _ _ f _ c.from.ensures) in
    let z = x.demands.links.size_is in
    record { in_range = (c.requires.in_range.0, started-low c.requires.catalogued.0 z _ _ _ (start-raised _ _ c.begin_beside.ensures.0 c.requires.catalogued.0 z _ _ _ g.levels (along-has _ _ _ _ f _ c.from.ensures))); demands = (c.requires.catalogued.0, x.demands) }

pub returns : goal.returns
returns c = λ D x.
    let s = c in
    let f = s.find.ensures D x.index.directory in
    let g = s.walk.ensures D x.index.links (begins-has _ _ _ _ f _ s.from.ensures) in
    let z = x.demands.links.size_is in
    ended-load _ D z _ _ _ _ _ _ (start-raised _ _ s.begin_beside.ensures.0 D z _ _ _ g.levels (along-has _ _ _ _ f _ s.from.ensures)) (s.close-growth.ensures D x.demands)
