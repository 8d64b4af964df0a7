use native.Mathlib.Omega.{arith}
use Rattle.state.proofs.HeldStores.{named-stored}
use Rattle.state.proofs.held_words.set_desk.Goals as goal

pub returns : goal.returns
returns c = rw c.from.ensures (named-stored c.args.held.now c.requires _ (omega arith))
