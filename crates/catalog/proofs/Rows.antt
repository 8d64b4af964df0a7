-- Which rows have a value: in any database, and in the lent rows test by test. Assumes nothing.
use Prim.Native.Nat.{ℕ, ◌≤◌, ◌<◌}
use native.Mathlib.Omega.{arith}
use mathlib.Core.Path.{◌≡◌, refl, sym, ap, ◌∙◌}
use mathlib.Core.Bool.{true, false, not}
use mathlib.Core.List.{List}
use borrow.Author.Tests.{le-ltb, ne_eqb}
use lib.Dec.{eqb, ltb}
use lib.ListN.{get_or}
use Rattle.finite.proofs.Bools.{clash, refute, and_left, and_right, cond-false}
use Rattle.model.specs.Cell.{Cell, is_blank, equal}
use Rattle.model.specs.Database.{Database, has}
use Rattle.model.proofs.CellLaws.{equal-full, equal-self}
use Rattle.model.specs.Scheme as Model
use Rattle.state.specs.Cells.{Cells}
use Rattle.state.specs.declared.cell.Cell as State
use Rattle.state.specs.Meaning.{cell_of, cell_at, free_table, database_of}
use Rattle.state.proofs.RowLaws.{cell-at, live_at, has_value}
use Rattle.catalog.specs.Catalog.{next_of}

-- ---- in any database: row r and column p of table t

module _ (D : Database) (t p r : ℕ) where
  abbrev k : Model.Column
  k = record { table = t; place = p }

  pub has-dead : D.live r ≡ false → (v : Cell) → has D k v r ≡ false
  unfolding has
  has-dead h v = and_left (D.live r) _ h

  pub has-elsewhere : (D.table r ≡ t → ⊥) → (v : Cell) → has D k v r ≡ false
  unfolding has
  has-elsewhere h v = and_right (D.live r) _ (and_left (eqb (D.table r) t) _ (ne_eqb _ _ h))

  pub has-blank : is_blank (D.cell r p) ≡ true → (v : Cell) → has D k v r ≡ false
  unfolding has
  has-blank h v =
      and_right (D.live r) _ (and_right (eqb (D.table r) t) _ (refute (equal (D.cell r p) v) (λ e. clash h (equal-full (D.cell r p) v e))))

  -- a row of the table that has no value there has no next row
  pub next-none : D.table r ≡ t → ((v : Cell) → has D k v r ≡ false) → next_of D r p ≡ 512
  unfolding next_of
  next-none e h = cond-false _ _ 512 (ap (λ (u : ℕ). has D (record { table = u; place = p }) (D.cell r p) r) e ∙ h _)

-- ---- in the lent rows

module _ (cells : Cells) (tables : List ℕ) (r : ℕ) where
  pub table_is : (database_of cells tables).table r ≡ get_or tables r 0
  unfolding database_of
  table_is = refl

  pub dead-at : 512 ≤ r → (database_of cells tables).live r ≡ false
  unfolding database_of
  dead-at h = and_left (ltb r 512) _ (le-ltb r 512 h)

  -- a row of a table
  pub live_in : (t : ℕ) → r < 512 → t < 8 → get_or tables r 0 ≡ t → (database_of cells tables).live r ≡ true
  live_in t l h e = live_at cells tables r l ∙ ap not (ne_eqb (get_or tables r 0) free_table (λ q. omega arith))

  pub table-at : (t : ℕ) → get_or tables r 0 ≡ t → (database_of cells tables).table r ≡ t
  table-at t e = table_is ∙ e

  pub elsewhere-at : (t : ℕ) → (get_or tables r 0 ≡ t → ⊥) → (database_of cells tables).table r ≡ t → ⊥
  elsewhere-at t ne e = ne (sym table_is ∙ e)

  module _ (p : ℕ) (q : p < 8) (x : State.Cell) (w : x ≡ cell_at cells r p) where
    pub blank-at : is_blank (cell_of x) ≡ true → is_blank ((database_of cells tables).cell r p) ≡ true
    blank-at e = ap is_blank (cell-at cells tables r p q) ∙ sym (ap (λ (y : State.Cell). is_blank (cell_of y)) w) ∙ e

    pub value-at : (t : ℕ) → r < 512 → (database_of cells tables).live r ≡ true → get_or tables r 0 ≡ t → is_blank (cell_of x) ≡ false
        → has (database_of cells tables) (record { table = t; place = p }) (cell_of x) r ≡ true
    value-at t l h e z = sym (has_value cells tables (record { table = t; place = p }) (cell_of x) r l q h x w e) ∙ equal-self (cell_of x) z
