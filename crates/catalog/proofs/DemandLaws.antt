-- The first rows that constraints demand: of one row, test by test; and a loop that stores them constraint by constraint. Assumes nothing.
use Prim.Native.Nat.{ℕ, ◌+◌, ◌*◌, ◌/◌, ◌%◌, ◌-◌, ◌≤◌, ◌<◌}
use native.Mathlib.Decide.{dec_lt}
use native.Mathlib.Omega.{arith}
use mathlib.Core.Path.{◌≡◌, sym, ap, ◌∙◌}
use mathlib.Core.Bool.{Bool, true, false, cond, ◌&&◌}
use mathlib.Core.List.{List}
use borrow.Author.Tests.{lt-ltb, le-ltb, eq-eqb, ne_eqb}
use lib.Dec.{eqb, ltb}
use lib.ListN.{length, get_or, replicate, length-replicate}
use lib.Seq.{sets, length-sets}
use Rattle.finite.specs.Finite.{tab, first_from}
use Rattle.finite.proofs.Bools.{and_left, and_right, cond-true, cond-false}
use Rattle.finite.proofs.Tables.{length-tab, tab-at, tab-of, replicate-tab, Upto}
use Rattle.finite.proofs.Stores.{sets_below, sets-above, sets-at}
use Rattle.model.specs.Cell.{Cell}
use Rattle.model.specs.Scheme.{Scheme}
use Rattle.model.specs.Database.{Database, has}
use Rattle.model.specs.Rounds.{leads}
use Rattle.model.specs.Scheme as Model
use Rattle.state.specs.Cells.{Cells}
use Rattle.state.specs.declared.cell.Cell as State
use Rattle.state.specs.Meaning.{cell_of, cell_at, database_of}
use Rattle.state.proofs.RowLaws.{cell-at}
use Rattle.catalog.specs.Catalog.{demanded_first}
use Rattle.finite.proofs.First.{first-none, first-same}
use Rattle.catalog.proofs.Rows.{table_is}

-- ---- one row

module _ (cells : Cells) (tables : List ℕ) (j : Model.Constraint) (s : ℕ) where
  abbrev D : Database
  D = database_of cells tables

  pub demanded-absent : D.live s ≡ false → 512 ≡ first_from 512 (leads D j s) 0
  unfolding leads
  demanded-absent h = sym (first-none 512 (leads D j s) 0 (λ r _ _. and_left (D.live s) _ h))

  pub demanded-elsewhere : (get_or tables s 0 ≡ j.source.table → ⊥) → 512 ≡ first_from 512 (leads D j s) 0
  unfolding leads
  demanded-elsewhere h =
      sym (first-none 512 (leads D j s) 0
      (λ r _ _. and_right (D.live s) _ (and_left (eqb (D.table s) j.source.table) _ (ne_eqb _ _ (λ e. h (sym (table_is cells tables s) ∙ e))))))

  pub demanded-value : D.live s ≡ true → j.source.place < 8 → get_or tables s 0 ≡ j.source.table → (v : State.Cell)
      → v ≡ cell_at cells s j.source.place → (n : ℕ) → n ≡ first_from 512 (has D j.target (cell_of v)) 0 → n ≡ first_from 512 (leads D j s) 0
  unfolding leads
  demanded-value h p e v w n q = q ∙ first-same 512 _ (leads D j s) 0 (λ r _ _. sym (same r))
    where
      same : (r : ℕ) → D.live s && (eqb (D.table s) j.source.table && has D j.target (D.cell s j.source.place) r)
          ≡ has D j.target (cell_of v) r
      same r =
          ap (λ (b : Bool). b && (eqb (D.table s) j.source.table && has D j.target (D.cell s j.source.place) r))
          h
          ∙ ap (λ (b : Bool). b && has D j.target (D.cell s j.source.place) r) (eq-eqb _ _ (table_is cells tables s ∙ e))
          ∙ ap (λ (a : Cell). has D j.target a r) (cell-at cells tables s j.source.place p ∙ ap cell_of (sym w))

-- ---- constraint by constraint

module _ (S : Scheme) (D : Database) where
  abbrev new : ℕ → ℕ
  new y = demanded_first S D (y / 512) (y % 512)

  pub firsts-start : Upto 0 8192 (512 * 0) new (λ _. 512) (replicate 8192 512)
  firsts-start =
      record {
        long = length-replicate {A = ℕ} 8192 512;
        at = λ r h. ap (λ (l : List ℕ). get_or l r 0) (replicate-tab 8192 512) ∙ tab-at 0 8192 (λ _. 512) r h ∙
            sym (cond-false (ltb r 0) (new r) 512 (le-ltb r 0 (omega arith)));
      }

  module _ (i : ℕ) (xs ys : List ℕ) (u : Upto 0 8192 (512 * i) new (λ _. 512) xs) (l : i < 16) (h : i < S.constraints) where
    abbrev row : ℕ → ℕ
    row s = first_from 512 (leads D (S.constraint i) s) 0

    pub firsts-turn : ys ≡ sets xs (512 * i) (tab 512 (λ s. first_from 512 (leads D (S.constraint i) s) 0)) → Upto 0 8192 (512 * (i + 1)) new (λ _. 512) ys
    unfolding demanded_first
    firsts-turn e = record { long = ap length e ∙ length-sets xs (512 * i) (tab 512 row) ∙ u.long; at = λ r b. there r b (dec_lt r (512 * i)) (dec_lt r (512 * (i + 1))) }
      where
        read : (r : ℕ) → get_or ys r 0 ≡ get_or (sets xs (512 * i) (tab 512 row)) r 0
        read r = ap (λ (z : List ℕ). get_or z r 0) e

        own : (s : ℕ) → s < 512 → row s ≡ new (512 * i + s)
        own s b =
            let p : (512 * i + s) / 512 ≡ i = omega arith in
            let q : (512 * i + s) % 512 ≡ s = omega arith in
            sym (ap (λ (z : ℕ). demanded_first S D z ((512 * i + s) % 512)) p ∙ ap (demanded_first S D i) q ∙ cond-true (ltb i S.constraints) (row s) 512 (lt-ltb i S.constraints h))

        there : (r : ℕ) → r < 8192 → Dec (r < 512 * i) → Dec (r < 512 * (i + 1)) → get_or ys r 0 ≡ cond (ltb r (512 * (i + 1))) (new r) 512
        there r b (yes c) d =
            read r ∙ sets_below 0 xs (512 * i) (tab 512 row) r c ∙ u.at r b ∙ cond-true (ltb r (512 * i)) (new r) 512 (lt-ltb r (512 * i) c)
            ∙ sym (cond-true (ltb r (512 * (i + 1))) (new r) 512 (lt-ltb r (512 * (i + 1)) (omega arith)))
        there r b (no c) (yes d) =
            let q : 512 * i + (r - 512 * i) ≡ r = omega arith in
            read r ∙ ap (λ (z : ℕ). get_or (sets xs (512 * i) (tab 512 row)) z 0) (sym q)
            ∙ sets-at 0 xs (512 * i) (tab 512 row) (r - 512 * i) (omega (arith, length-tab 512 row, u.long)) (omega (arith, length-tab 512 row))
            ∙ tab-at 0 512 row (r - 512 * i) (omega arith) ∙ own (r - 512 * i) (omega arith) ∙ ap new q
            ∙ sym (cond-true (ltb r (512 * (i + 1))) (new r) 512 (lt-ltb r (512 * (i + 1)) d))
        there r b (no c) (no d) =
            read r ∙ sets-above 0 xs (512 * i) (tab 512 row) r (omega (arith, length-tab 512 row)) ∙ u.at r b
            ∙ cond-false (ltb r (512 * i)) (new r) 512 (le-ltb r (512 * i) (omega arith))
            ∙ sym (cond-false (ltb r (512 * (i + 1))) (new r) 512 (le-ltb r (512 * (i + 1)) (omega arith)))

  pub firsts-end : (i : ℕ) (xs : List ℕ) → i ≤ S.constraints → S.constraints ≤ i → Upto 0 8192 (512 * i) new (λ _. 512) xs → xs ≡ tab 8192 new
  unfolding demanded_first
  firsts-end i xs a b u = tab-of 0 8192 new xs u.long (λ r h. there r h (dec_lt r (512 * i)))
    where
      there : (r : ℕ) → r < 8192 → Dec (r < 512 * i) → get_or xs r 0 ≡ new r
      there r h (yes c) = u.at r h ∙ cond-true (ltb r (512 * i)) (new r) 512 (lt-ltb r (512 * i) c)
      there r h (no c) =
          u.at r h ∙ cond-false (ltb r (512 * i)) (new r) 512 (le-ltb r (512 * i) (omega arith))
          ∙ sym (cond-false (ltb (r / 512) S.constraints) (first_from 512 (leads D (S.constraint (r / 512)) (r % 512)) 0) 512 (le-ltb (r / 512) S.constraints (omega arith)))
