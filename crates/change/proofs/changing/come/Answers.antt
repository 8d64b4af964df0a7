-- `change::changing::come` meets its contract: the row stored, the catalog, the marks. Assumes nothing.
use Rattle.state.specs.HeldWords.{words_held}
use Rattle.state.specs.Meaning.{scheme_of}
use Rattle.lawful.proofs.StoredLaws.{row_sized}
use Rattle.change.proofs.ReplaceLaws.{replaced}
use Rattle.change.proofs.BesideLaws.{stored-without, stored-table, stored-backs}
use Rattle.change.proofs.ComingLaws.{comes}
use Rattle.change.proofs.changing.come.Goals as goal

pub put_in-requires : goal.put_in-requires
put_in-requires c = let s = c in
    let p = s.requires.r_bound in
    record { in_range = (p.1, p.0, stored-backs _ _ p.0 p.3 _ _ c.store_row.ensures, stored-table _ _ p.0 p.3 _ s.requires.table_bound.0 _ c.store_row.ensures); without = (_, stored-without _ _ p.0 p.3 s.args.x (row_sized s.args.x _ s.well_formed.1.1.1.1.1.1.1.1.1.0) s.requires.table_bound.1 _ c.store_row.ensures, s.requires.table_bound.3) }

pub mark_new-requires : goal.mark_new-requires
mark_new-requires c = record { table_bound = (c.requires.table_bound.0, c.requires.r_bound.1, c.requires.r_bound.2, c.requires.r_bound.4); catalogued = (_, c.put_in.ensures) }

pub returns : goal.returns
returns c = let s = c in
    let p = s.requires.r_bound in
    let y = comes (scheme_of s.args.design) _ _ p.0 p.3 s.args.x (row_sized s.args.x _ s.well_formed.1.1.1.1.1.1.1.1.1.0) s.requires.table_bound.0 s.requires.table_bound.1 _ c.store_row.ensures s.requires.table_bound.2 in
    record { replaced = replaced s.args.design _ _ (words_held s.args.held.now) _ _ _ _ _ c.store_row.ensures (c.mark_new.ensures _ _ _ c.put_in.ensures y); catalogued = c.put_in.ensures }
