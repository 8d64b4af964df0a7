use native.Mathlib.Omega.{arith}
use Prim.Native.Nat.{◌+◌, ◌*◌}
use Rattle.finite.proofs.Stores.{stored-four}
use Rattle.state.proofs.HeldStores.{value-stored}
use Rattle.state.proofs.held_words.set_value.Goals as goal

pub returns : goal.returns
returns c = let a = c.args in
    rw (c.from.ensures, c.from-2.ensures, c.from-3.ensures)
    (value-stored a.held.now c.requires.1 _ c.requires.0 a.v (omega arith, omega arith, omega arith) _
    (stored-four a.held.now (2 + 4 * a.i) a.v.desk a.v.pair.filling a.v.pair.value.number a.v.pair.value.issue))
