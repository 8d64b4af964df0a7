-- A lawful design cut after its first items: what its reader has made of it there. Places past the cut are unused. Assumes nothing.
use Prim.Native.Nat.{ℕ, ◌+◌, ◌*◌, ◌-◌, ◌/◌, ◌%◌, ◌≤◌, ◌<◌}
use native.Mathlib.Nat.{div-add-mod}
use native.Mathlib.Omega.{arith}
use mathlib.Core.Path.{◌≡◌, sym, ap, subst, ◌∙◌}
use mathlib.Core.Bool.{true, false, cond, and-eq-true_iff}
use mathlib.Core.List.{List}
use mathlib.Core.Logic.{◌⊎◌, ⊎_elim}
use borrow.Author.Tests.{lt-ltb, le-ltb, ltb-true, ltb-false, eqb-true}
use lib.Dec.{eqb, ltb}
use lib.ListN.{length, get_or, set, length-set}
use lib.Seq.{sets, length-sets, get_or-set_same, get_or-set_other}
use Rattle.lawful.proofs.DesignLaws.{zero-table, zero-constraint, zero-filling}
use Rattle.finite.specs.Finite.{tab, all}
use Rattle.finite.proofs.Bools.{dec, cond-true, cond-false, order}
use Rattle.finite.proofs.Search.{all-at}
use Rattle.finite.proofs.Tables.{tab-at, tab-of, tab-same, length-tab}
use Rattle.finite.proofs.Stores.{sets_below, sets-at, sets-above}
use Rattle.model.specs.Cell.{blank, is_blank}
use Rattle.model.proofs.CellLaws.{is-blank}
use Rattle.state.specs.Cells.{Cells}
use Rattle.state.specs.declared.design.Design.{Design}
use Rattle.state.specs.Design.{no_table, no_constraint, no_filling, table_at, constraint_at, filling_at}
use Rattle.state.specs.Held.{no_cell}
use Rattle.state.specs.Meaning.{cell_back, cell_in, cell_at, free_table, scheme_of, database_of}
use Rattle.state.specs.Lawful.{table_fits, zero_table, constraint_fits, zero_constraint, filling_fits, zero_filling, blank_row}
use Rattle.state.proofs.Places.{unused-is}
use Rattle.state.proofs.RowLaws.{cell-at}
use Rattle.format.proofs.LawfulLaws.{Parts, RowParts, row_test, no_row}

-- ---- lists cut after k elements: f up to there, then e; z is what is read past the end of a list

abbrev pub cut_list : {A : Type 0} → A → ℕ → ℕ → (ℕ → A) → List A
cut_list e n k f = tab n (λ i. cond (ltb i k) (f i) e)

module _ {A : Type 0} (e z : A) (n : ℕ) (f : ℕ → A) where
  pub cut_at : (k i : ℕ) → i < n → i < k → get_or (cut_list e n k f) i z ≡ f i
  cut_at k i l h = tab-at z n (λ j. cond (ltb j k) (f j) e) i l ∙ cond-true (ltb i k) (f i) e (lt-ltb i k h)

  pub cut-none : tab n (λ _. e) ≡ cut_list e n 0 f
  cut-none = tab-same n (λ _. e) (λ i. cond (ltb i 0) (f i) e) (λ i l. sym (cond-false (ltb i 0) (f i) e (le-ltb i 0 (omega arith))))

  pub cut-more : (k : ℕ) → k < n → set (cut_list e n k f) k (f k) ≡ cut_list e n (k + 1) f
  cut-more k l =
      tab-of z n (λ i. cond (ltb i (k + 1)) (f i) e) (set (cut_list e n k f) k (f k)) (length-set (cut_list e n k f) k (f k) ∙ length-tab n (λ i. cond (ltb i k) (f i) e))
      (λ i h. ⊎_elim (λ (q : i < k). get_or-set_other (cut_list e n k f) k i (f k) z (λ (u : i ≡ k). omega arith) ∙ cut_at k i h q ∙ sym (cond-true (ltb i (k + 1)) (f i) e (lt-ltb i (k + 1) (omega arith))))
      (λ (q : (i ≡ k) ⊎ (k < i)). ⊎_elim
      (λ (w : i ≡ k). let b : k < length (cut_list e n k f) = subst (λ (m : ℕ). k < m) (sym (length-tab n (λ i. cond (ltb i k) (f i) e))) l in
      subst (λ (j : ℕ). get_or (set (cut_list e n k f) k (f k)) j z ≡ cond (ltb j (k + 1)) (f j) e) (sym w)
      (get_or-set_same (cut_list e n k f) k (f k) z b ∙ sym (cond-true (ltb k (k + 1)) (f k) e (lt-ltb k (k + 1) (omega arith)))))
      (λ (g : k < i). get_or-set_other (cut_list e n k f) k i (f k) z (λ (u : i ≡ k). omega arith) ∙ tab-at z n (λ j. cond (ltb j k) (f j) e) i h ∙
      cond-false (ltb i k) (f i) e (le-ltb i k (omega arith)) ∙ sym (cond-false (ltb i (k + 1)) (f i) e (le-ltb i (k + 1) (omega arith)))) q)
      (order i k))

  pub cut-whole : (k : ℕ) (xs : List A) → length xs ≡ n → ((i : ℕ) → i < n → get_or xs i z ≡ f i) → ((i : ℕ) → i < n → k ≤ i → f i ≡ e) → cut_list e n k f ≡ xs
  cut-whole k xs long g h =
      sym (tab-of z n (λ i. cond (ltb i k) (f i) e) xs long
      (λ i l. g i l ∙ ⊎_elim (λ (q : ltb i k ≡ true). sym (cond-true (ltb i k) (f i) e q))
      (λ (q : ltb i k ≡ false). h i l (ltb-false i k q) ∙ sym (cond-false (ltb i k) (f i) e q)) (dec (ltb i k))))

-- eight more elements
pub cut-eight : (n : ℕ) (f : ℕ → ℕ) (r : ℕ) → 8 * r + 8 ≤ n → sets (cut_list 0 n (8 * r) f) (8 * r) (tab 8 (λ c. f (8 * r + c))) ≡ cut_list 0 n (8 * (r + 1)) f
cut-eight n f r l =
    let xs = cut_list 0 n (8 * r) f in
    let vs = tab 8 (λ c. f (8 * r + c)) in
    let lx : length xs ≡ n = length-tab n (λ i. cond (ltb i (8 * r)) (f i) 0) in
    let lv : length vs ≡ 8 = length-tab 8 (λ c. f (8 * r + c)) in
    tab-of 0 n (λ i. cond (ltb i (8 * (r + 1))) (f i) 0) (sets xs (8 * r) vs) (length-sets xs (8 * r) vs ∙ lx)
    (λ i h. ⊎_elim (λ (q : ltb i (8 * r) ≡ true). let b = ltb-true i (8 * r) q in
    sets_below 0 xs (8 * r) vs i b ∙ cut_at 0 0 n f (8 * r) i h b ∙ sym (cond-true (ltb i (8 * (r + 1))) (f i) 0 (lt-ltb i (8 * (r + 1)) (omega arith))))
    (λ (q : ltb i (8 * r) ≡ false). let b = ltb-false i (8 * r) q in
    ⊎_elim (λ (z : ltb i (8 * r + 8) ≡ true). let g = ltb-true i (8 * r + 8) z in
    let j : 8 * r + (i - 8 * r) ≡ i = omega arith in
    ap (λ (k : ℕ). get_or (sets xs (8 * r) vs) k 0) (sym j) ∙ sets-at 0 xs (8 * r) vs (i - 8 * r) (omega arith) (omega arith) ∙
    tab-at 0 8 (λ c. f (8 * r + c)) (i - 8 * r) (omega arith) ∙ ap f j ∙ sym (cond-true (ltb i (8 * (r + 1))) (f i) 0 (lt-ltb i (8 * (r + 1)) (omega arith))))
    (λ (z : ltb i (8 * r + 8) ≡ false). let g = ltb-false i (8 * r + 8) z in
    sets-above 0 xs (8 * r) vs i (omega arith) ∙ tab-at 0 n (λ j. cond (ltb j (8 * r)) (f j) 0) i h ∙ cond-false (ltb i (8 * r)) (f i) 0 q ∙
    sym (cond-false (ltb i (8 * (r + 1))) (f i) 0 (le-ltb i (8 * (r + 1)) (omega arith))))
    (dec (ltb i (8 * r + 8)))) (dec (ltb i (8 * r))))

-- ---- what is 0

-- a free number, in the buffers
no-row : (cells : Cells) (tables : List ℕ) (r : ℕ) → no_row (database_of cells tables) r ≡ true
    → (get_or tables r 0 ≡ free_table) × ((c : ℕ) → c < 8 → cell_at cells r c ≡ no_cell)
unfolding no_row blank_row database_of blank
no-row cells tables r h =
    let D = database_of cells tables in
    let x = (and-eq-true_iff (eqb (get_or tables r 0) free_table) (all 8 (λ c. is_blank (D.cell r c)))).0 h in (
      eqb-true _ _ x.0,
      λ c l. ap cell_back (sym (cell-at cells tables r c l) ∙ is-blank (D.cell r c) (all-at 8 (λ c. is_blank (D.cell r c)) x.1 c l)),
    )

-- ---- unused places of a lawful design with its rows

module _ (d : Design) (p : Parts d) where
  pub unused-table : (i : ℕ) → i < 8 → d.tables ≤ i → table_at d i ≡ no_table
  unused-table i l h = zero-table (table_at d i) (sym (unused-is i d.tables (table_fits (table_at d i)) (zero_table (table_at d i)) h) ∙ p.table i l)

  pub unused-constraint : (i : ℕ) → i < 16 → d.constraints ≤ i → constraint_at d i ≡ no_constraint
  unused-constraint i l h =
      zero-constraint (constraint_at d i) (sym (unused-is i d.constraints (constraint_fits d i (constraint_at d i)) (zero_constraint (constraint_at d i)) h) ∙ p.constraint i l)

  pub unused-filling : (i : ℕ) → i < 8 → d.fillings ≤ i → filling_at d i ≡ no_filling
  unused-filling i l h = zero-filling (filling_at d i) (sym (unused-is i d.fillings (filling_fits d i (filling_at d i)) (zero_filling (filling_at d i)) h) ∙ p.filling i l)

module _ (d : Design) (n : ℕ) (cells : Cells) (tables : List ℕ) (p : RowParts d n cells tables) where
  unused-row : (r : ℕ) → r < 512 → n ≤ r → (get_or tables r 0 ≡ free_table) × ((c : ℕ) → c < 8 → cell_at cells r c ≡ no_cell)
  unused-row r l h =
      let D = database_of cells tables in
      no-row cells tables r (sym (unused-is r n (row_test (scheme_of d) D r) (no_row D r) h) ∙ p.row r l)

  pub unused-member : (r : ℕ) → r < 512 → n ≤ r → get_or tables r 0 ≡ free_table
  unused-member r l h = (unused-row r l h).0

  pub unused-cell : (i : ℕ) → i < 4096 → 8 * n ≤ i → cell_in cells i ≡ no_cell
  unused-cell i l h =
      let e : 8 * (i / 8) + i % 8 ≡ i = div-add-mod i 8 in
      ap (cell_in cells) (sym e) ∙ (unused-row (i / 8) (omega arith) (omega arith)).1 (i % 8) (omega arith)
