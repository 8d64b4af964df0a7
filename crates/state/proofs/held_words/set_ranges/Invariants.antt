-- What the loops of `state::held_words::set_ranges` keep.
use Prim.Native.Nat.{ℕ, ◌+◌, ◌*◌, ◌<◌}
use lib.ListN.{get_or}
use Rattle.state.specs.Held.{no_range}
use Rattle.state.specs.HeldWords.{range_words}
use Rattle.state.proofs.WordPlaces.{Storing}
use Rattle.state.proofs.held_words.set_ranges.Given as goal

abbrev pub invariant-loop-i : goal.invariant-loop-i
invariant-loop-i l =
    Storing 8 (258 + 25 * l.e + 1) 3 no_range range_words l.r-items l.initial.held l.held l.i × ((j : ℕ) → j < l.i → (get_or l.r-items j no_range).filling < 256)
