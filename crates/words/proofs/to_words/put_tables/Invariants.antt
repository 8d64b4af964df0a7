-- What the loops of `words::to_words::put_tables` keep.
use Rattle.state.specs.Design.{no_table}
use Rattle.words.specs.Words.{table_words}
use Rattle.state.proofs.WordPlaces.{Storing}
use Rattle.words.proofs.to_words.put_tables.Given as goal

abbrev pub invariant-loop-i : goal.invariant-loop-i
invariant-loop-i l = Storing 8 3 2 no_table table_words l.fn.ts l.initial.words l.words l.i
