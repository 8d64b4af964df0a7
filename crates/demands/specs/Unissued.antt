-- Document 01's own words for cells, before 02, Req 06 gave them issues: "A cell is a u32. 0 is blank (SQL null); a blank equals nothing, not even another blank. Two other
-- cells are equal if their numbers are." Assumes nothing.
use Rattle.std.specs.Prelude.{ℕ, ◌≡◌, ◌≢◌, true}
use Rattle.model.specs.Scheme.{Column, Constraint}
use Rattle.model.specs.Database.{Database}
use Rattle.model.specs.Cache.{RowSet}

-- no row has an issue: "designs without issues answer as before"
pub record Unissued (D : Database) : Type 0 where
  pub cell : (r c : ℕ) → (D.cell r c).issue ≡ 0

abbrev pub EqualNumbers : ℕ → ℕ → Type 0
EqualNumbers a b = (a ≢ 0) × (a ≡ b)

-- row r of column k's table has the number n there
pub record HasNumber (D : Database) (k : Column) (n r : ℕ) : Type 0 where
  pub live : D.live r ≡ true
  pub table : D.table r ≡ k.table
  pub value : EqualNumbers (D.cell r k.place).number n

-- "A value v is complete in T.c if all backend rows of T with c equal to v are cached"
abbrev pub CompleteNumber : Database → RowSet → Column → ℕ → Type 0
CompleteNumber D X k n = (r : ℕ) → HasNumber D k n r → X r ≡ true

-- "A constraint S.a → T.b .. holds if for every cached row of S whose cell a isn't blank, all backend rows of T with an equal cell b are cached"
abbrev pub HoldsNumbers : Database → RowSet → Constraint → Type 0
HoldsNumbers D X j =
    (s : ℕ) → X s ≡ true → D.live s ≡ true → D.table s ≡ j.source.table → (D.cell s j.source.place).number ≢ 0 →
    CompleteNumber D X j.target (D.cell s j.source.place).number

-- "A unique column has no value but blank twice among its table's backend rows"
abbrev pub UniqueNumbers : Database → Column → Type 0
UniqueNumbers D k = (n r s : ℕ) → HasNumber D k n r → HasNumber D k n s → r ≡ s
