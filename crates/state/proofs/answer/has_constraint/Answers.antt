-- `state::answer::has_constraint` meets its contract. Assumes nothing.
use mathlib.Core.Path.{refl}
use Rattle.state.specs.Meaning.{bit}
use Rattle.state.proofs.answer.has_constraint.Goals as goal

pub returns : goal.returns
unfolding bit
returns c = refl
