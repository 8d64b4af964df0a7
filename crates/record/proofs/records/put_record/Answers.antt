-- `cache::records::put_record` meets its contract: part by part. Assumes nothing.
use Rattle.state.proofs.Arrays.{held-sized}
use Rattle.state.proofs.HeldWords.{holds-whole}
use Rattle.record.proofs.RecordWords.{record-stored}
use Rattle.record.proofs.records.put_record.Goals as goal

pub set_desk-requires : goal.set_desk-requires
set_desk-requires c = c.requires.1

pub set_count-requires : goal.set_count-requires
set_count-requires c = (c.requires.0.few, holds-whole _ _ c.set_desk.ensures)

pub put_values-requires : goal.put_values-requires
put_values-requires c = holds-whole _ _ c.set_count.ensures

pub put_desks-requires : goal.put_desks-requires
put_desks-requires c = (holds-whole _ _ c.put_values.ensures, λ e l. (c.requires.0.ranges e l).few)

pub returns : goal.returns
returns c = let s = c in record-stored s.args.h (held-sized s.args.h _ s.well_formed.0) _ _ _ _ _ c.set_desk.ensures c.set_count.ensures c.put_values.ensures c.put_desks.ensures
