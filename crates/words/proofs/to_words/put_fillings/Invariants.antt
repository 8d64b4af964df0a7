-- What the loops of `words::to_words::put_fillings` keep.
use Rattle.state.specs.Design.{no_filling}
use Rattle.words.specs.Words.{filling_words}
use Rattle.state.proofs.WordPlaces.{Storing}
use Rattle.words.proofs.to_words.put_fillings.Given as goal

abbrev pub invariant-loop-i : goal.invariant-loop-i
invariant-loop-i l = Storing 8 83 4 no_filling filling_words l.fn.fs l.initial.words l.words l.i
