-- Columns where seeing a value is enough (02, Req 13: "if all constraints and fillings ending at a table end at one column of it, every value cached in that
-- column has a ground of 1 or 2"). Assumes nothing.
use Rattle.std.specs.Prelude.{ℕ, ◌<◌, ◌≡◌, ◌⊎◌, true}
use Rattle.model.specs.Cell.{Cell}
use Rattle.model.specs.Scheme.{Column, Scheme}
use Rattle.model.specs.Database.{Database, Has}
use Rattle.model.specs.Cache.{RowSet, Held}
use Rattle.model.specs.Probe.{probe}

-- all constraints and fillings that end at k's table end at k
pub record OneColumn (S : Scheme) (k : Column) : Type 0 where
  pub constraints : (i : ℕ) → i < S.constraints → (S.constraint i).target.table ≡ k.table → (S.constraint i).target ≡ k
  pub fillings : (f : ℕ) → f < S.fillings → (S.filling f).column.table ≡ k.table → (S.filling f).column ≡ k

-- every value that a cached row has in column k has ground 1 or 2
abbrev pub SeeingEnough : Scheme → Database → Held → RowSet → Column → Type 0
SeeingEnough S D H X k = (r : ℕ) (v : Cell) → X r ≡ true → Has D k v r → (probe S D H X k v ≡ 1) ⊎ (probe S D H X k v ≡ 2)
