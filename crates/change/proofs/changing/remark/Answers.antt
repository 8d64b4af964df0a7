-- `change::changing::remark` meets its contract: the load from nothing, and the marks that it leaves. Assumes nothing.
use Rattle.state.specs.HeldWords.{words_held}
use Rattle.state.specs.Meaning.{scheme_of}
use Rattle.load.proofs.EndedLaws.{within_all}
use Rattle.change.proofs.ReplaceLaws.{remarked}
use Rattle.change.proofs.changing.remark.Goals as goal

pub load_held-requires : goal.load_held-requires
load_held-requires c = record { in_range = (c.requires.in_range.0, c.requires.in_range.1); catalogued = c.requires.catalogued }

pub settle-requires : goal.settle-requires
settle-requires c = (c.requires.in_range.2, (c.load_held.ensures c.requires.catalogued.0 c.requires.catalogued.1 (within_all _ _ _)).long)

pub returns : goal.returns
returns c = λ D x.
    let s = c in
    remarked (scheme_of s.args.design) D x.demands.links.size_is (words_held s.args.held.now) _ _ _ _ _ (c.load_held.ensures D x (within_all _ _ _)).levels c.rows_came-came.ensures c.rows_went-went.ensures
    c.settle.ensures
