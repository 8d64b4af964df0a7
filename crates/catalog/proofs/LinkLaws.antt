-- The next row of a cell of the lent rows, test by test. Assumes nothing.
use Prim.Native.Nat.{ℕ, ◌+◌, ◌*◌, ◌/◌, ◌%◌, ◌<◌}
use native.Mathlib.Omega.{arith}
use mathlib.Core.Path.{◌≡◌, refl, sym, ap, ◌∙◌}
use mathlib.Core.Bool.{true, false}
use mathlib.Core.List.{List}
use lib.ListN.{get_or}
use Rattle.model.specs.Cell.{is_blank}
use Rattle.model.specs.Database.{Database, has}
use Rattle.state.specs.Cells.{Cells}
use Rattle.state.specs.declared.cell.Cell.{Cell}
use Rattle.state.specs.Meaning.{cell_of, cell_at, database_of}
use Rattle.finite.specs.Finite.{first_from}
use Rattle.catalog.specs.Catalog.{next_of}
use Rattle.catalog.specs.Columns.{Linked}
use Rattle.catalog.proofs.CatalogLaws.{next-has}
use Rattle.catalog.proofs.Rows.{has-dead, has-blank, next-none, table_is, blank-at, value-at}

-- the row and the column of cell number x
cell-number : (x : ℕ) → 8 * (x / 8) + x % 8 ≡ x
cell-number x = omega arith

module _ (cells : Cells) (tables : List ℕ) (x : ℕ) (l : x < 4096) where
  abbrev D : Database
  D = database_of cells tables

  pub settled-absent : D.live (x / 8) ≡ false → 512 ≡ next_of D (x / 8) (x % 8)
  settled-absent h = sym (next-none D (D.table (x / 8)) (x % 8) (x / 8) refl (has-dead D _ (x % 8) (x / 8) h))

  module _ (v : Cell) (w : v ≡ cell_at cells (x / 8) (x % 8)) where
    pub settled-blank : is_blank (cell_of v) ≡ true → 512 ≡ next_of D (x / 8) (x % 8)
    settled-blank h =
        sym (next-none D (D.table (x / 8)) (x % 8) (x / 8) refl
        (has-blank D _ (x % 8) (x / 8) (blank-at cells tables (x / 8) (x % 8) (omega arith) v w h)))

    pub settled-value : D.live (x / 8) ≡ true → is_blank (cell_of v) ≡ false → (n : ℕ)
        → n ≡ first_from 512 (has D (record { table = get_or tables (x / 8) 0; place = x % 8 }) (cell_of v)) (x / 8 + 1) → n ≡ next_of D (x / 8) (x % 8)
    settled-value h z n e =
        e ∙ sym (next-has D (record { table = get_or tables (x / 8) 0; place = x % 8 }) (cell_of v) (x / 8)
        (value-at cells tables (x / 8) (x % 8) (omega arith) v w (get_or tables (x / 8) 0) (omega arith) h refl z))

  -- a cell of the first 8 tables
  pub settled-known : (next : List ℕ) → Linked D 64 next → D.live (x / 8) ≡ true → get_or tables (x / 8) 0 < 8 → get_or next x 0 ≡ next_of D (x / 8) (x % 8)
  settled-known next k h b =
      ap (λ (y : ℕ). get_or next y 0) (sym (cell-number x)) ∙ k (x / 8) (x % 8) (omega arith) h (omega (arith, table_is cells tables (x / 8)))
