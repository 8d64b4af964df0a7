-- `change::changing::go` meets its contract: the catalog, the row freed, the marks. Assumes nothing.
use Rattle.state.specs.Cells.{cells_in}
use Rattle.state.specs.HeldWords.{words_held}
use Rattle.state.specs.Changes.{rows_in, free_row}
use Rattle.change.proofs.ReplaceLaws.{replaced}
use Rattle.change.proofs.BesideLaws.{freed-without, freed-rows, freed-catalogued}
use Rattle.change.proofs.LeavingLaws.{leaves}
use Rattle.change.proofs.changing.go.Goals as goal

pub leads_on-on-requires : goal.leads_on-on-requires
leads_on-on-requires c = (c.requires.r_bound.1, c.requires.r_bound.0)

pub take_out-requires : goal.take_out-requires
take_out-requires c = let s = c in
    record { in_range = (s.requires.r_bound.1, s.requires.r_bound.0, s.requires.r_bound.3, s.requires.r_bound_2.0); catalogued = s.requires.r_bound_2.2; without = (_, freed-without (rows_in (cells_in s.args.cells.now s.args.issues.now) s.args.tables.now) _ s.requires.r_bound.0 s.requires.r_bound.3) }

pub unmark-requires : goal.unmark-requires
unmark-requires c = let s = c in
    let g = freed-rows (rows_in (cells_in s.args.cells.now s.args.issues.now) s.args.tables.now) _ s.requires.r_bound.0 s.requires.r_bound.3 _ c.free_row.ensures _ c.store_row.ensures in
    record { r_bound = (s.requires.r_bound.0, s.requires.r_bound.1, s.requires.r_bound.2, s.requires.r_bound.4); catalogued = (_, freed-catalogued (rows_in (cells_in s.args.cells.now s.args.issues.now) s.args.tables.now) _ s.requires.r_bound.0 s.requires.r_bound.3 _ _ _ _ g (c.take_out.ensures _ (freed-without (rows_in (cells_in s.args.cells.now s.args.issues.now) s.args.tables.now) _ s.requires.r_bound.0 s.requires.r_bound.3))) }

pub returns : goal.returns
returns c = let s = c in
    let g = freed-rows (rows_in (cells_in s.args.cells.now s.args.issues.now) s.args.tables.now) _ s.requires.r_bound.0 s.requires.r_bound.3 _ c.free_row.ensures _ c.store_row.ensures in
    let b = freed-catalogued (rows_in (cells_in s.args.cells.now s.args.issues.now) s.args.tables.now) _ s.requires.r_bound.0 s.requires.r_bound.3 _ _ _ _ g (c.take_out.ensures _ (freed-without (rows_in (cells_in s.args.cells.now s.args.issues.now) s.args.tables.now) _ s.requires.r_bound.0 s.requires.r_bound.3)) in
    let o = leaves s.args.design (rows_in (cells_in s.args.cells.now s.args.issues.now) s.args.tables.now) _ s.requires.r_bound.0 s.requires.r_bound.3 _ g s.requires.r_bound_2.1 (c.leads_on-on.ensures _ s.requires.r_bound_2.2.demands) in
    record { replaced = replaced s.args.design (rows_in (cells_in s.args.cells.now s.args.issues.now) s.args.tables.now) _ (words_held s.args.held.now) _ _ _ free_row _ g (c.unmark.ensures _ _ b o); catalogued = b }
