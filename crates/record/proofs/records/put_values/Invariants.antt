-- What the loops of `record::records::put_values` keep.
use Rattle.state.specs.HeldWords.{words_held}
use Rattle.record.proofs.RecordWords.{Valued}
use Rattle.record.proofs.records.put_values.Given as goal

abbrev pub invariant-loop-i : goal.invariant-loop-i
invariant-loop-i l = Valued (words_held l.initial.held) l.vs l.held l.i
