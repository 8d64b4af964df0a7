-- `state::narrow::is_byte` meets its contract. Assumes nothing.
use mathlib.Core.Path.{refl}
use Rattle.state.specs.HeldWords.{is_byte}
use Rattle.state.proofs.narrow.is_byte.Goals as goal

pub returns : goal.returns
unfolding is_byte
returns c = refl
