-- `wurzsige::telling::tell_counts` meets its contract. Assumes nothing.
use native.Mathlib.Omega.{arith}
use mathlib.Core.Path.{refl}
use Rattle.finite.specs.Finite.{tab}
use Rattle.wurzsige.proofs.telling.tell_counts.Goals as goal

pub returns : goal.returns
unfolding tab
returns c = record { number = refl; count = refl; few = omega arith; numbers = refl }
