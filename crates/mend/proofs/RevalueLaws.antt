-- A cell of a row among the lent rows that comes or goes, in the directory. Assumes nothing.
use Prim.Native.Nat.{ℕ, ◌+◌, ◌*◌, ◌/◌, ◌%◌, ◌<◌}
use native.Mathlib.Omega.{arith}
use mathlib.Core.Path.{◌≡◌, refl, sym, ap, ap₂, subst, ◌∙◌}
use mathlib.Core.Bool.{true, false}
use mathlib.Core.List.{List}
use lib.ListN.{get_or}
use Rattle.model.specs.Cell.{Cell, is_blank}
use Rattle.model.specs.Database.{Database, has}
use Rattle.state.specs.Cells.{Cells}
use Rattle.state.specs.declared.cell.Cell as State
use Rattle.state.specs.Meaning.{cell_of, cell_at, database_of}
use Rattle.state.proofs.RowLaws.{cell-at}
use Rattle.catalog.specs.Catalog.{next_of, key_of, value_of, Links}
use Rattle.catalog.specs.Columns.{column_no}
use Rattle.mend.specs.Changing.{Without}
use Rattle.mend.specs.Values.{Changing, Stands, Comes, Goes}
use Rattle.catalog.proofs.Entries.{link_at}
use Rattle.catalog.proofs.KeyLaws.{value-is}
use Rattle.mend.proofs.RelinkLaws.{none-blank, has-own-value}
use Rattle.mend.proofs.DirectoryLaws.{comes-apart, goes-apart, comes-in, goes-out, stands-in}

module _ (cells : Cells) (tables : List ℕ) (r c : ℕ) (l : r < 512) (q : c < 8) (t : get_or tables r 0 < 8) where
  abbrev F : Database
  F = database_of cells tables

  abbrev n : ℕ
  n = 8 * get_or tables r 0 + c

  column-below : 8 * get_or tables r 0 + c < 64
  column-below = omega arith

  place_is : (8 * get_or tables r 0 + c) % 8 ≡ c
  place_is = omega arith

  table_is : (8 * get_or tables r 0 + c) / 8 ≡ get_or tables r 0
  table_is = omega arith

  -- the next column
  on : (D G : Database) (keys heads starts : List ℕ) → Changing D G (n + 1) keys heads starts → Changing D G (8 * get_or tables r 0 + (c + 1)) keys heads starts
  on D G keys heads starts x =
      let e : n + 1 ≡ 8 * get_or tables r 0 + (c + 1) = omega arith in
      subst (λ (z : ℕ). Changing D G z keys heads starts) e x

  module _ (v : State.Cell) (w : v ≡ cell_at cells r c) (E : Database) (o : Without E F r) (keys heads starts : List ℕ) where
    -- a blank
    module _ (b : is_blank (cell_of v) ≡ true) where
      pub put-blank : Changing E F (8 * get_or tables r 0 + c) keys heads starts → Changing E F (8 * get_or tables r 0 + (c + 1)) keys heads starts
      put-blank x =
          on E F keys heads starts
          (comes-apart E F r o n keys heads starts column-below (none-blank cells tables r c l q t v w b (column_no n) place_is) x)

      pub drop-blank : Changing F E (8 * get_or tables r 0 + c) keys heads starts → Changing F E (8 * get_or tables r 0 + (c + 1)) keys heads starts
      drop-blank x =
          on F E keys heads starts
          (goes-apart E F r o n keys heads starts column-below (none-blank cells tables r c l q t v w b (column_no n) place_is) x)

    -- a value with the key y
    module _ (b : is_blank (cell_of v) ≡ false) (y : ℕ) (key : (y ≡ key_of (cell_of v)) × (v.issue < 256)) where
      has-y : has F (column_no n) (value_of y) r ≡ true
      has-y =
          ap₂ (λ (a d : ℕ). has F (record { table = a; place = d }) (value_of y) r) table_is place_is
          ∙ ap (λ (u : Cell). has F (record { table = get_or tables r 0; place = c }) u r) (value-is (cell_of v) y key) ∙ has-own-value cells tables r c l q t v w b

      pub put_in : (keys' heads' starts' : List ℕ) → Changing E F (8 * get_or tables r 0 + c) keys heads starts → get_or starts 64 0 < 4096
          → Comes y r (8 * get_or tables r 0 + c) keys heads starts keys' heads' starts' → Changing E F (8 * get_or tables r 0 + (c + 1)) keys' heads' starts'
      put_in keys' heads' starts' x m z = on E F keys' heads' starts' (comes-in E F r o n keys heads starts column-below y has-y keys' heads' starts' x m z)

      pub drop-stands : Changing F E (8 * get_or tables r 0 + c) keys heads starts → (i : ℕ) × Stands y (8 * get_or tables r 0 + c) i keys starts
      drop-stands x = stands-in E F r o n keys heads starts column-below y has-y x

      pub drop-out : (keys' heads' starts' catalog : List ℕ) → ((i : ℕ) → get_or cells.issues i 0 < 256) → Links F catalog
          → Changing F E (8 * get_or tables r 0 + c) keys heads starts → Goes y r (8 * get_or tables r 0 + c) (get_or catalog (8 * r + c) 0) keys heads starts keys' heads' starts'
          → Changing F E (8 * get_or tables r 0 + (c + 1)) keys' heads' starts'
      drop-out keys' heads' starts' catalog narrow k x z =
          on F E keys' heads' starts'
          (goes-out E F r o n keys heads starts column-below y has-y keys' heads' starts' (get_or catalog (8 * r + c) 0)
          (link_at F catalog k r c (get_or catalog (8 * r + c) 0) l q refl ∙ ap (next_of F r) (sym place_is)) (λ s. issue s) x z)
        where
          issue : (s : ℕ) → (F.cell s (n % 8)).issue < 256
          issue s =
              subst (λ (u : Cell). u.issue < 256) (sym (ap (λ (a : ℕ). F.cell s a) place_is ∙ cell-at cells tables s c q)) (narrow (8 * s + c))
