-- `words::to_words::put_design` meets its contract: each part goes behind the one before. Assumes nothing.
use Rattle.words.proofs.WordLaws.{stored-design}
use Rattle.words.proofs.to_words.put_design.Goals as goal

pub returns : goal.returns
returns c = let f = c in
    let k = f in
    let t = k in
    let n = t in
    stored-design n.args.d _ _ _ _ _
    n.put_counts.ensures t.put_tables.ensures k.put_constraints.ensures f.put_fillings.ensures
