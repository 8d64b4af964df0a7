-- What a design decides of a column before any row is there: whether a load can be asked for its values, whether a value can come to be complete there in passing,
-- or neither, so that every probe is sent; and whether seeing a value there is enough (02, Req 13). Assumes nothing.
use Rattle.std.specs.Prelude.{ℕ, ◌≤◌, ◌<◌, ◌^◌, Bool, not, ◌&&◌, ◌||◌, eqb}
use Rattle.finite.specs.Finite.{any, all, first}
use Rattle.model.specs.Scheme.{Column, same_column, Scheme, ColumnOf}
use Rattle.model.specs.Even.{reaches}

-- what cause 5 leaves of a design: at most eight tables, constraints and fillings of columns that exist, candidates that are some numbers u32 above 0
pub record Proper (S : Scheme) : Type 0 where
  pub tables : S.tables ≤ 8
  pub source : (i : ℕ) → i < S.constraints → ColumnOf S (S.constraint i).source
  pub target : (i : ℕ) → i < S.constraints → ColumnOf S (S.constraint i).target
  pub filling : (f : ℕ) → f < S.fillings → ColumnOf S (S.filling f).column
  pub low : (f : ℕ) → f < S.fillings → 1 ≤ (S.filling f).low
  pub high : (f : ℕ) → f < S.fillings → (S.filling f).low ≤ (S.filling f).high
  pub stored : (f : ℕ) → f < S.fillings → (S.filling f).high < 2 ^ 32

-- a load can be asked for a value of the column: a filling has it
unfoldable pub fetches : Scheme → Column → Bool
fetches S k = any S.fillings (λ f. same_column (S.filling f).column k)

-- the table can ever have a cached row: a filling's table reaches it along constraints
unfoldable pub can_cache : Scheme → ℕ → Bool
can_cache S t = any S.fillings (λ f. reaches S (S.filling f).column.table t)

-- a value is complete in the column once a cached row has it: in the source of a constraint that ends there (ground 2), or there, where it is unique (ground 3)
unfoldable pub links_to : Scheme → Column → ℕ → Bool
links_to S k i = same_column (S.constraint i).target k && can_cache S (S.constraint i).source.table

unfoldable pub once_linked : Scheme → Column → Bool
once_linked S k = any S.constraints (links_to S k)

-- the lowest constraint by which it is; the number of constraints if none is
abbrev pub lowest_link : Scheme → Column → ℕ
lowest_link S k = first S.constraints (links_to S k)

unfoldable pub once_unique : Scheme → Column → Bool
once_unique S k = S.unique k && can_cache S k.table

unfoldable pub once_here : Scheme → Column → Bool
once_here S k = once_linked S k || once_unique S k

-- neither: every value of the column is sent, always
unfoldable pub never : Scheme → Column → Bool
never S k = not (fetches S k) && not (once_here S k)

-- column j is k, or lies in another table
unfoldable pub elsewhere_or : Column → Column → Bool
elsewhere_or k j = not (eqb j.table k.table) || same_column j k

-- Req 13's condition as a test: "all constraints and fillings ending at a table end at one column of it", k (`OneColumn` of `Seeing.antt`)
unfoldable pub is_one_column : Scheme → Column → Bool
is_one_column S k = all S.constraints (λ i. elsewhere_or k (S.constraint i).target) && all S.fillings (λ f. elsewhere_or k (S.filling f).column)
