-- `opener::leading::leading_rows` meets its contract. Assumes nothing.
use Rattle.opener.proofs.LeadLaws.{lead-range, lead-demands, lead-load}
use Rattle.catalog.proofs.MakingLaws.{demands-made}
use Rattle.state.proofs.Arrays.{sized}
use Rattle.opener.proofs.leading.leading_rows.Goals as goal

pub turn_firsts-requires : goal.turn_firsts-requires
turn_firsts-requires c = (c.requires.in_range.0, (c.requires.catalogued.0, c.requires.catalogued.1.demands))

pub giving_rows-requires : goal.giving_rows-requires
giving_rows-requires c = (c.requires.in_range.0, c.requires.in_range.1, c.requires.in_range.2, (c.requires.catalogued.0, c.requires.catalogued.1.index))

pub load_rows-requires : goal.load_rows-requires
load_rows-requires c = let s = c in
    let l = (sized s.args.d _ s.well_formed.0).constraint in
    record { in_range = lead-range _ _ c.turned-t.ensures l s.requires.in_range.0; demands = (s.requires.catalogued.0, lead-demands _ _ c.turned-t.ensures l s.requires.catalogued.0 _ (demands-made _ _ _ _ (c.turn_firsts.ensures s.requires.catalogued.0 s.requires.catalogued.1.demands) s.requires.catalogued.1.demands.links)) }

pub returns : goal.returns
returns c = λ D x.
    let s = c in
    let l = (sized s.args.d _ s.well_formed.0).constraint in
    let m = lead-demands _ _ c.turned-t.ensures l D _ (demands-made _ _ _ _ (c.turn_firsts.ensures D x.demands) x.demands.links) in
    lead-load _ _ c.turned-t.ensures l D x.demands.links.size_is _ _ _ _ (c.giving_rows.ensures D x.index) (c.load_rows.ensures D m)
