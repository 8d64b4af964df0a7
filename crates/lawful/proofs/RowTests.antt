-- What the tests of a row, lent or an operand, say test by test. Assumes nothing.
use Prim.Native.Nat.{ℕ}
use mathlib.Core.Path.{◌≡◌, sym, ap, ◌∙◌}
use mathlib.Core.Logic.{⊎_elim}
use mathlib.Core.Bool.{Bool, true, false, ◌&&◌}
use mathlib.Core.List.{List}
use lib.Dec.{ltb}
use lib.ListN.{get_or}
use Rattle.finite.specs.Finite.{all}
use Rattle.finite.proofs.Bools.{dec, clash, cond-true, cond-false}
use Rattle.finite.proofs.Search.{all_same}
use Rattle.model.specs.Cell.{Cell, is_blank, numberless}
use Rattle.model.proofs.CellLaws.{numbered-full}
use Rattle.state.specs.Cells.{Cells}
use Rattle.state.specs.declared.design.Design.{Design}
use Rattle.state.specs.Meaning.{cell_of, cell_at, scheme_of, database_of}
use Rattle.state.specs.Lawful.{cell_fits, fits_table, row_fits, blank_row}
use Rattle.state.proofs.RowLaws.{cell-at}

-- ---- a cell that fits, test by test

module _ (n c : ℕ) (a : Cell) where
  pub fits-blank : is_blank a ≡ true → true ≡ cell_fits n c a
  unfolding cell_fits
  fits-blank e =
      ⊎_elim (λ (q : numberless a ≡ true). sym (cond-true (numberless a) _ _ q ∙ e))
      (λ (q : numberless a ≡ false). clash e (numbered-full a q)) (dec (numberless a))

  pub fits-issue : is_blank a ≡ false → numberless a ≡ true → false ≡ cell_fits n c a
  unfolding cell_fits
  fits-issue e q = sym (cond-true (numberless a) _ _ q ∙ e)

  pub fits-number : numberless a ≡ false → ltb c n ≡ cell_fits n c a
  unfolding cell_fits
  fits-number q = sym (cond-false (numberless a) _ _ q)

-- ---- the cells of a row, in the buffers and in the database

pub row-fits : (d : Design) (cells : Cells) (tables : List ℕ) (r : ℕ) →
    fits_table (scheme_of d) (get_or tables r 0) (λ c. cell_of (cell_at cells r c)) ≡ row_fits (scheme_of d) (database_of cells tables) r
unfolding row_fits database_of
row-fits d cells tables r =
    ap (λ (b : Bool). ltb (get_or tables r 0) (scheme_of d).tables && b)
    (all_same 8 _ _ (λ c l. ap (cell_fits ((scheme_of d).columns (get_or tables r 0)) c) (sym (cell-at cells tables r c l))))

-- ---- a number that has no cell

pub blank-cells : (cells : Cells) (tables : List ℕ) (r : ℕ) → all 8 (λ c. is_blank (cell_of (cell_at cells r c))) ≡ blank_row (database_of cells tables) r
unfolding blank_row
blank-cells cells tables r = all_same 8 _ _ (λ c l. ap is_blank (sym (cell-at cells tables r c l)))
