-- Rows in buffers that are longer than their sizes: they are the same rows, and a change of them is refused alike and leaves what lies past them as it was.
-- Assumes nothing.
use Prim.Native.Nat.{ℕ, suc, ◌+◌, ◌*◌, ◌<◌, ◌≤◌}
use native.Mathlib.Omega.{arith}
use mathlib.Core.Path.{◌≡◌, refl, sym, ap, ap₂, subst, ◌∙◌}
use mathlib.Core.Bool.{Bool, true, false, not, cond, ◌&&◌}
use mathlib.Core.List.{List, [], ◌∷◌, ◌++◌}
use mathlib.Core.Logic.{⊎_elim}
use borrow.Author.Tests.{ltb-true}
use lib.Dec.{eqb, ltb}
use lib.ListN.{length, get_or, set, length-set, get_or-append}
use lib.Seq.{sets, length-sets, set-append_left}
use Rattle.finite.proofs.Bools.{same_number}
use Rattle.finite.proofs.Search.{any_same}
use Rattle.model.specs.Cell.{blank}
use Rattle.model.specs.Scheme.{Scheme}
use Rattle.state.specs.declared.rows.Row.{Row}
use Rattle.state.specs.Cells.{cells_in}
use Rattle.state.specs.Meaning.{cell_of, cell_in, cell_at, free_table, database_of}
use Rattle.state.specs.Lawful.{fits_table}
use Rattle.state.specs.Changes.{Change, put, remove, Rows, rows_in, tables_of, row_cell, number_of, row_of, stored, is_free, stands, change_cause, rows_after}
use Rattle.lawful.proofs.StoredLaws.{RowSized}
use Rattle.lawful.proofs.SoundChange.{number-below, rows-changed, rows-unchanged}
use Rattle.script.specs.JustRead.{longer}
use Rattle.model.proofs.SameRows.{SameRows, and_same, has-test}

-- rows that have the sizes of a design just read
pub record RowsSized (R : Rows) : Type 0 where
  pub numbers : length R.cells.numbers ≡ 4096
  pub issues : length R.cells.issues ≡ 4096
  pub tables : length R.tables ≡ 512

-- the rows R, with others behind them
abbrev pub extended : Rows → Rows → Rows
extended R O = rows_in (longer R.cells O.cells) (R.tables ++ O.tables)

-- stores inside the first of two lists
sets-front : {A : Type 0} (xs ys : List A) (i : ℕ) (vs : List A) → i + length vs ≤ length xs → sets (xs ++ ys) i vs ≡ sets xs i vs ++ ys
sets-front xs ys i [] h = refl
sets-front {A} xs ys i (a ∷ vs) h =
    ap (λ (l : List A). sets l (suc i) vs) (set-append_left xs ys i a (omega arith)) ∙ sets-front (set xs i a) ys (suc i) vs (omega (arith, length-set xs i a))

module _ (R O : Rows) (z : RowsSized R) where
  pub longer-cell : (x : ℕ) → x < 4096 → cell_in R.cells x ≡ cell_in (longer R.cells O.cells) x
  longer-cell x l =
      λ i. record {
        number = sym (get_or-append R.cells.numbers O.cells.numbers 0 x (omega (arith, z.numbers))) i;
        issue = sym (get_or-append R.cells.issues O.cells.issues 0 x (omega (arith, z.issues))) i;
      }

  pub longer-table : (r : ℕ) → r < 512 → get_or R.tables r 0 ≡ get_or (R.tables ++ O.tables) r 0
  longer-table r l = sym (get_or-append R.tables O.tables 0 r (omega (arith, z.tables)))

  pub longer-same : SameRows (tables_of R) (tables_of (extended R O))
  unfolding database_of
  longer-same =
      record {
        size = refl;
        live = λ r.
            and_same (ltb r 512) (ltb r 512) (not (eqb (get_or R.tables r 0) free_table)) (not (eqb (get_or (R.tables ++ O.tables) r 0) free_table)) refl
            (λ l. ap (λ (t : ℕ). not (eqb t free_table)) (longer-table r (ltb-true r 512 l)));
        table = λ r l. longer-table r (below r l);
        cell = λ r k l. cell_same r k (below r l) (ltb k 8) (ltb-true k 8);
      }
    where
      below : (r : ℕ) → (tables_of R).live r ≡ true → r < 512
      below r l = (tables_of R).finite r l

      cell_same : (r k : ℕ) → r < 512 → (b : Bool) → (b ≡ true → k < 8) →
          cond b (cell_of (cell_at R.cells r k)) blank ≡ cond b (cell_of (cell_at (longer R.cells O.cells) r k)) blank
      cell_same r k l true h = let g = h refl in ap cell_of (longer-cell (8 * r + k) (omega arith))
      cell_same r k l false h = refl

  -- ---- a change

  free-same : (r : ℕ) → is_free (extended R O) r ≡ is_free R r
  unfolding is_free
  free-same r = ap (λ (b : Bool). ltb r 512 && not b) (sym (longer-same.live r))

  stands_same : (S : Scheme) (x : Row) → stands S (extended R O) x ≡ stands S R x
  unfolding stands
  stands_same S x =
      any_same 8 _ _ (λ c l.
      ap (λ (b : Bool). S.unique (record { table = x.table; place = c }) && b)
      (any_same 512 _ _ (λ q m. sym (has-test longer-same (record { table = x.table; place = c }) (row_cell x c) q))))

  -- it is refused alike
  cause-same : (S : Scheme) (x : Change) → change_cause S (extended R O) x ≡ change_cause S R x
  unfolding change_cause
  cause-same S (put r x) =
      ap₂ (λ (f s : Bool). cond (not (f && fits_table S x.table (row_cell x))) 5 (cond s 6 0)) (free-same r) (stands_same S x)
  cause-same S (remove r) = ap (λ (b : Bool). cond b 0 5) (sym (longer-same.live r))

  stored_same : (r : ℕ) (x : Row) → RowSized x → r < 512 → stored (extended R O) r x ≡ extended (stored R r x) O
  unfolding stored
  stored_same r x s l =
      λ i. rows_in
      (cells_in (sets-front R.cells.numbers O.cells.numbers (8 * r) x.numbers (omega (arith, z.numbers, s.numbers)) i)
      (sets-front R.cells.issues O.cells.issues (8 * r) x.issues (omega (arith, z.issues, s.issues)) i))
      (set-append_left R.tables O.tables r x.table (omega (arith, z.tables)) i)

  -- the rows afterwards, with the same behind them
  pub rows_same : (S : Scheme) (x : Change) → RowSized (row_of x) → rows_after S (extended R O) x ≡ extended (rows_after S R x) O
  rows_same S x s =
      ⊎_elim (λ (e : change_cause S R x ≡ 0).
      rows-changed S (extended R O) x (cause-same S x ∙ e) ∙ stored_same (number_of x) (row_of x) s (number-below S R x e) ∙
      ap (λ (T : Rows). extended T O) (sym (rows-changed S R x e)))
      (λ (n : change_cause S R x ≡ 0 → ⊥).
      rows-unchanged S (extended R O) x (λ e. n (sym (cause-same S x) ∙ e)) ∙ ap (λ (T : Rows). extended T O) (sym (rows-unchanged S R x n)))
      (same_number (change_cause S R x) 0)

-- a change keeps the sizes
sized-stored : (R : Rows) (r : ℕ) (x : Row) → RowsSized R → RowsSized (stored R r x)
unfolding stored
sized-stored R r x z =
    record {
      numbers = length-sets R.cells.numbers (8 * r) x.numbers ∙ z.numbers;
      issues = length-sets R.cells.issues (8 * r) x.issues ∙ z.issues;
      tables = length-set R.tables r x.table ∙ z.tables;
    }

pub sized-after : (S : Scheme) (R : Rows) (x : Change) → RowsSized R → RowsSized (rows_after S R x)
sized-after S R x z =
    ⊎_elim (λ (e : change_cause S R x ≡ 0). subst RowsSized (sym (rows-changed S R x e)) (sized-stored R (number_of x) (row_of x) z))
    (λ (n : change_cause S R x ≡ 0 → ⊥). subst RowsSized (sym (rows-unchanged S R x n)) z)
    (same_number (change_cause S R x) 0)
