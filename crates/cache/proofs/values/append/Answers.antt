use native.Mathlib.Omega.{arith}
use Rattle.state.proofs.HeldWords.{holds-whole}
use Rattle.cache.proofs.HeldShifts.{append-words}
use Rattle.cache.proofs.values.append.Goals as goal

pub set_value-requires : goal.set_value-requires
set_value-requires c = (omega (arith, c.requires.1, c.value_count-n.ensures), c.requires.2)

pub overflow_add-n : goal.overflow_add-n
overflow_add-n c = omega (arith, c.requires.1, c.value_count-n.ensures)

pub set_count-requires : goal.set_count-requires
set_count-requires c = (omega (arith, c.requires.1, c.value_count-n.ensures), holds-whole _ _ c.set_value.ensures)

pub returns : goal.returns
returns c = let s = c in append-words s.args.held.now _ _ s.args.v _ _ s.requires.0 s.requires.1 c.value_count-n.ensures c.named_desk.ensures c.set_value.ensures c.set_count.ensures
