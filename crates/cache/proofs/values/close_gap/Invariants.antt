-- What the loops of `cache::values::close_gap` keep.
use Rattle.state.specs.HeldWords.{words_held}
use Rattle.cache.proofs.HeldShifts.{Shifting}
use Rattle.cache.proofs.values.close_gap.Given as goal

abbrev pub invariant-loop-i : goal.invariant-loop-i
invariant-loop-i l = Shifting (words_held l.initial.held) l.gap l.held l.i
