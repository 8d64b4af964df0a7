-- What the tests of a row say of the lent buffers. Assumes nothing.
use Prim.Native.Nat.{ℕ, ◌<◌}
use mathlib.Core.Path.{◌≡◌, refl, sym, ap, ◌∙◌}
use mathlib.Core.Bool.{Bool, true, false, not, cond, ◌&&◌, and_assoc}
use mathlib.Core.List.{List}
use borrow.Author.Tests.{lt-ltb, eq-eqb}
use lib.Dec.{eqb}
use lib.ListN.{get_or}
use Rattle.finite.proofs.Bools.{and-go, and-stop}
use Rattle.model.specs.Cell.{Cell, blank, equal}
use Rattle.model.specs.Scheme as Model
use Rattle.model.specs.Database.{has}
use Rattle.model.specs.Ranges.{Range, in_range, has_range}
use Rattle.state.specs.declared.cell.Cell as State
use Rattle.state.specs.Cells.{Cells}
use Rattle.state.specs.Meaning.{cell_of, cell_at, free_table, database_of}

-- ---- one cell

pub cell-at : (cells : Cells) (tables : List ℕ) (r c : ℕ) → c < 8 → (database_of cells tables).cell r c ≡ cell_of (cell_at cells r c)
unfolding database_of
cell-at cells tables r c h = ap (λ (b : Bool). cond b (cell_of (cell_at cells r c)) blank) (lt-ltb c 8 h)

pub live_at : (cells : Cells) (tables : List ℕ) (r : ℕ) → r < 512 → (database_of cells tables).live r ≡ not (eqb (get_or tables r 0) free_table)
unfolding database_of
live_at cells tables r h = ap (λ (b : Bool). b && not (eqb (get_or tables r 0) free_table)) (lt-ltb r 512 h)

-- ---- a row that has a value, test by test

module _ (cells : Cells) (tables : List ℕ) (k : Model.Column) (v : Cell) (r : ℕ) (l : r < 512) (p : k.place < 8) where
  pub has-at : has (database_of cells tables) k v r ≡
      (database_of cells tables).live r && (eqb (get_or tables r 0) k.table && equal (cell_of (cell_at cells r k.place)) v)
  unfolding has database_of
  has-at = rw (lt-ltb k.place 8 p)

  has-split : ((database_of cells tables).live r && eqb (get_or tables r 0) k.table) && equal (cell_of (cell_at cells r k.place)) v ≡ has (database_of cells tables) k v r
  has-split = and_assoc ((database_of cells tables).live r) (eqb (get_or tables r 0) k.table) (equal (cell_of (cell_at cells r k.place)) v) ∙ sym has-at

  -- no row of the column's table
  pub has-none : (database_of cells tables).live r && eqb (get_or tables r 0) k.table ≡ false → false ≡ has (database_of cells tables) k v r
  has-none e = and-stop _ _ e ∙ has-split

  -- a row of it, whose cell there is x
  pub has-cell : (x : State.Cell) → x ≡ cell_at cells r k.place → (database_of cells tables).live r && eqb (get_or tables r 0) k.table ≡ true →
      equal (cell_of x) v ≡ has (database_of cells tables) k v r
  has-cell x c e = ap (λ (y : State.Cell). equal (cell_of y) v) c ∙ and-go _ _ e refl ∙ has-split

  -- the same, its table apart
  pub has_value : (database_of cells tables).live r ≡ true → (x : State.Cell) → x ≡ cell_at cells r k.place → get_or tables r 0 ≡ k.table →
      equal (cell_of x) v ≡ has (database_of cells tables) k v r
  has_value h x c t = has-cell x c (sym (and-go _ _ h (sym (eq-eqb _ _ t))))

-- ---- a row that has a value of a range, in the same way

module _ (cells : Cells) (tables : List ℕ) (k : Model.Column) (q : Range) (r : ℕ) (l : r < 512) (p : k.place < 8) where
  pub range-at : has_range (database_of cells tables) k q r ≡
      (database_of cells tables).live r && (eqb (get_or tables r 0) k.table && in_range q (cell_of (cell_at cells r k.place)))
  unfolding has_range database_of
  range-at = rw (lt-ltb k.place 8 p)

  range-split : ((database_of cells tables).live r && eqb (get_or tables r 0) k.table) && in_range q (cell_of (cell_at cells r k.place)) ≡ has_range (database_of cells tables) k q r
  range-split = and_assoc ((database_of cells tables).live r) (eqb (get_or tables r 0) k.table) (in_range q (cell_of (cell_at cells r k.place))) ∙ sym range-at

  pub range-none : (database_of cells tables).live r && eqb (get_or tables r 0) k.table ≡ false → false ≡ has_range (database_of cells tables) k q r
  range-none e = and-stop _ _ e ∙ range-split

  pub range-cell : (x : State.Cell) → x ≡ cell_at cells r k.place → (database_of cells tables).live r && eqb (get_or tables r 0) k.table ≡ true →
      in_range q (cell_of x) ≡ has_range (database_of cells tables) k q r
  range-cell x c e = ap (λ (y : State.Cell). in_range q (cell_of y)) c ∙ and-go _ _ e refl ∙ range-split
