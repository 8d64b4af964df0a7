-- `cache::records::drop_record` meets its contract: the record stored as words, the operation over them, and the record that they hold then. Assumes nothing.
use Rattle.state.proofs.HeldWords.{holds-whole}
use Rattle.lawful.proofs.Asked.{sound-tidy}
use Rattle.state.proofs.LentWords.{zero-whole}
use Rattle.record.proofs.RecordWords.{over-record, ready_for}
use Rattle.record.proofs.records.drop_record.Goals as goal

pub put_record-requires : goal.put_record-requires
put_record-requires c = (sound-tidy _ c.requires.2.sound-is, zero-whole)

pub drop_lawful-answer-requires : goal.drop_lawful-answer-requires
drop_lawful-answer-requires c = let s = c in
    record { whole = holds-whole _ _ c.put_record.ensures; by_index = (_, _, ready_for s.args.design _ _ _ _ _ _ _ c.put_record.ensures.means s.requires.2) }

pub returns : goal.returns
returns c = λ k t y.
    let o = c.put_record.ensures.means in
    over-record _ _ _ _ _ _ _ _ _ _ _ o c.record_in.ensures (c.drop_lawful-answer.ensures.1 k t (ready_for _ _ _ _ _ _ _ _ o y))
