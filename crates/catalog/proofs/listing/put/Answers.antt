-- `catalog::listing::put` meets its contract, test by test. Assumes nothing.
use mathlib.Core.Path.{sym, ◌∙◌}
use Rattle.state.specs.Cells.{cells_in}
use Rattle.state.specs.Meaning.{cell_of, database_of}
use Rattle.catalog.proofs.PutLaws.{put-room, put-elsewhere, put-blank, put-entered}
use Rattle.catalog.proofs.Rows.{live_in, table-at, elsewhere-at, blank-at, value-at}
use Rattle.catalog.proofs.listing.put.Goals as goal

pub returns-then-rows-r : goal.returns-then-rows-r
returns-then-rows-r c = put-elsewhere _ _ _ _ _ _ _ _ _ c.requires.listed (elsewhere-at _ _ _ _ c.if-rows-r.true)

pub returns-then-is_blank : goal.returns-then-is_blank
returns-then-is_blank c = let s = c in
    let b = s.requires.place_bound in
    put-blank _ _ _ _ _ _ _ _ _ s.requires.listed b.2 b.0 b.5 (table-at _ _ _ _ c.if-rows-r.false)
    (blank-at _ _ _ _ b.0 _ c.cell_at-v.ensures (sym c.is_blank.ensures ∙ c.if-is_blank.true))

pub enter-e-requires : goal.enter-e-requires
enter-e-requires c = let s = c in
    let b = s.requires.place_bound in
    let l = s.requires.listed in
    let D = database_of (cells_in s.args.rows.now.cells.now s.args.rows.now.issues.now) s.args.rows.now.tables.now in
    (l.order, put-room D _ _ _ (table-at _ _ _ _ c.if-rows-r.false) s.requires.table_bound, b.2, b.3, b.4, l.falls)

pub returns : goal.returns
returns c = let s = c in
    let b = s.requires.place_bound in
    put-entered _ _ _ _ _ _ _ _ _ s.requires.listed b.2 b.0 b.5 (table-at _ _ _ _ c.if-rows-r.false) (cell_of c.cell_at-v.result) _ _ _ _ _
    c.key_of.ensures
    (value-at _ _ _ _ b.0 _ c.cell_at-v.ensures _ b.2 (live_in _ _ _ _ b.2 b.1 c.if-rows-r.false) c.if-rows-r.false (sym c.is_blank.ensures ∙ c.if-is_blank.false))
    s.requires.table_bound b.3 b.4 c.enter-e.ensures
