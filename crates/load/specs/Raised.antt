-- One step of a load: rows that have no level yet and are demanded get one. Assumes nothing.
use Rattle.std.specs.Prelude.{ℕ, cond, List}
use Rattle.finite.specs.Finite.{tab}
use Rattle.model.specs.Cache.{RowSet}
use Rattle.model.specs.Rounds.{level, or_else}

-- the levels L, with level n for the rows of P that had none
unfoldable pub raised : List ℕ → ℕ → RowSet → List ℕ
raised L n P = tab 512 (λ r. or_else (level L r) (cond (P r) n 0))
