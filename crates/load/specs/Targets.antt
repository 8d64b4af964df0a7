-- The places of the columns at which the constraints end. Assumes nothing.
use Rattle.std.specs.Prelude.{ℕ, List}
use Rattle.finite.specs.Finite.{tab}
use Rattle.state.specs.declared.design.Design.{Design}
use Rattle.state.specs.Design.{constraint_at}

abbrev pub target_places : Design → List ℕ
target_places d = tab 16 (λ i. (constraint_at d i).target.place)
