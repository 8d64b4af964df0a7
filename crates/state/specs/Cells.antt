-- The lent cells. Assumes nothing.
use Rattle.std.specs.Prelude.{ℕ, List}

-- their numbers, and "in the cells' order" their issues (02, Req 06)
pub record Cells : Type 0 where
  pub numbers : List ℕ
  pub issues : List ℕ

abbrev pub cells_in : List ℕ → List ℕ → Cells
cells_in numbers issues = record { numbers = numbers; issues = issues }
