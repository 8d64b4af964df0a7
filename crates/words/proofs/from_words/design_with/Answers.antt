-- `words::from_words::design_with` meets its contract: part by part. Assumes nothing.
use Rattle.words.proofs.WordLaws.{design-is}
use Rattle.words.proofs.from_words.design_with.Goals as goal

pub returns : goal.returns
returns c = let k = c in
    let t = k in
    design-is _ _ _ _ _ _ _ t.count_at-tables.ensures t.tables_from-table.ensures k.count_at-constraints.ensures k.constraints_from-constraint.ensures
    c.count_at-fillings.ensures c.fillings_from-filling.ensures
