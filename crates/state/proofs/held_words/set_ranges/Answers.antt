-- `state::held_words::set_ranges` meets its contract. The invariant: the places passed are stored, and their fillings are bytes. Assumes nothing.
use native.Mathlib.Omega.{arith}
use mathlib.Core.Path.{refl}
use Rattle.state.proofs.Arrays.{ranges-sized}
use Rattle.state.proofs.WordPlaces.{storing-start, storing-more, storing-end, below_more}
use Rattle.state.proofs.HeldWords.{stored-ranges}
use Rattle.state.proofs.HeldStores.{ranges-stored}
use Rattle.state.proofs.held_words.set_ranges.Goals as goal

pub loop-i-init : goal.loop-i-init
loop-i-init c = (storing-start, λ j l. absurd (omega arith))

pub loop-i-preserved : goal.loop-i-preserved
loop-i-preserved c = let v = c.loop-i.invariant in (storing-more v.0 c.loop-i-test.true (λ x. refl) c.put_range.ensures.0, below_more _ _ v.1 c.put_range.ensures.1)

pub returns : goal.returns
returns c = let a = c.args in let v = c.loop-i.invariant in
    ranges-stored a.held.now c.requires.2 _ c.requires.0 a.s (record { places = ranges-sized a.s _ c.well_formed.1.1.0; filling = λ i l. v.1 i (omega arith) }) _
    (stored-ranges a.s a.held.now _ _ _ refl (storing-end v.0 c.loop-i-test.false))
