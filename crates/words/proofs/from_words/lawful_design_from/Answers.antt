-- `words::from_words::lawful_design_from` meets its contract: a lawful design has nothing in the places that are not in use. Assumes nothing.
use Rattle.words.proofs.EmptyPlaces.{lawful-empty}
use Rattle.words.proofs.from_words.lawful_design_from.Goals as goal

pub design_with-requires : goal.design_with-requires
design_with-requires c = let s = c in
    let e = lawful-empty _ _ _ _ s.requires.1 c.count_at-m.ensures c.count_at-n.ensures c.count_at-l.ensures in
    (s.requires.0, e.few-tables, e.few-constraints, e.few-fillings, e.tables, e.constraints, e.fillings)
