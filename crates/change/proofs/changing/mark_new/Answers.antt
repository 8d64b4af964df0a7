-- `change::changing::mark_new` meets its contract: the marks that stay, or those of the load beside them. Assumes nothing.
use mathlib.Core.Path.{ap, ◌∙◌}
use Rattle.state.specs.Changes.{row_cell}
use Rattle.cache.proofs.LoadLaws.{load-long}
use Rattle.change.proofs.ComingLaws.{coming-uncalled, coming-called}
use Rattle.change.proofs.Ranges.{none-matched, some-matched}
use Rattle.change.proofs.changing.mark_new.Goals as goal

pub call_at-requires : goal.call_at-requires
call_at-requires c = record { table_bound = c.requires.table_bound; indexed = (_, c.requires.catalogued.1.index) }

pub returns-in_default : goal.returns-in_default
returns-in_default c E F r x y = coming-uncalled c.requires.table_bound.3 y (none-matched _ _ c.call_at.result c.in_default.is (c.call_at.ensures F x.index))

pub settle-requires : goal.settle-requires
settle-requires c = let s = c in
    (s.requires.table_bound.3, load-long s.args.design s.requires.catalogued.0 s.requires.catalogued.1.demands.links.size_is _ _ _ (c.load_value-grown.ensures s.requires.catalogued.0 s.requires.catalogued.1).0)

pub returns : goal.returns
returns c E F r x y = let s = c in
    let g = c.load_value-grown.ensures F x in
    let f = some-matched _ _ c.call_at.result _ c.in-Some.is (c.call_at.ensures F x.index) in
    coming-called s.requires.table_bound.3 y _ f.0 f.1 _ (c.operand_cell-v.ensures ∙ ap (row_cell s.args.x) c.from.ensures) _ g.0 _ g.1 _ c.settle.ensures
