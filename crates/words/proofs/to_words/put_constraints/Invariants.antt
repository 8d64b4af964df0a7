-- What the loops of `words::to_words::put_constraints` keep.
use Rattle.state.specs.Design.{no_constraint}
use Rattle.words.specs.Words.{constraint_words}
use Rattle.state.proofs.WordPlaces.{Storing}
use Rattle.words.proofs.to_words.put_constraints.Given as goal

abbrev pub invariant-loop-i : goal.invariant-loop-i
invariant-loop-i l = Storing 16 19 4 no_constraint constraint_words l.fn.cs l.initial.words l.words l.i
