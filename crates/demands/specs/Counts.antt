-- How many rows came and how many went, between two states, by the marks of both. Assumes nothing.
use Rattle.std.specs.Prelude.{ℕ, not, ◌&&◌, take}
use Rattle.finite.specs.Finite.{count}
use Rattle.model.specs.Runs.{marked}
use Rattle.state.specs.Lent.{State}

-- rows that are cached in t and not in s
abbrev pub came : State → State → ℕ
came s t = count 512 (λ r. marked (take 512 t.marks) r && not (marked (take 512 s.marks) r))

-- rows that are cached in s and not in t
abbrev pub went : State → State → ℕ
went s t = count 512 (λ r. marked (take 512 s.marks) r && not (marked (take 512 t.marks) r))
