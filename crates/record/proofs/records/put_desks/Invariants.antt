-- What the loops of `record::records::put_desks` keep.
use Rattle.state.specs.HeldWords.{words_held}
use Rattle.record.proofs.RecordWords.{Desked}
use Rattle.record.proofs.records.put_desks.Given as goal

abbrev pub invariant-loop-e : goal.invariant-loop-e
invariant-loop-e l = Desked (words_held l.initial.held) l.ss l.held l.e
