-- The rows left, numbered from 0 on: `compact` has the lent rows' rows in rising number and no gaps, is lawful if they are, and is written as the same
-- bytes. Assumes nothing.
use Prim.Native.Nat.{ℕ, zero, suc, ◌+◌, ◌*◌, ◌/◌, ◌%◌, ◌≤◌, ◌<◌}
use native.Mathlib.Numerals.{add-one}
use native.Mathlib.Omega.{arith}
use mathlib.Core.Path.{◌≡◌, refl, sym, ap, ap₂, subst, ◌∙◌}
use mathlib.Core.Bool.{Bool, true, false, not, cond, ◌&&◌, and-eq-true_iff}
use mathlib.Core.List.{List, [], ◌∷◌, ◌++◌, append-nil}
use mathlib.Core.Logic.{◌⊎◌, ⊎_elim}
use borrow.Author.Tests.{lt-ltb, le-ltb, ltb-true, ltb-false, eq-eqb, not-true}
use lib.Dec.{eqb, ltb}
use lib.ListN.{length, get_or, length-append, get_or-append}
use lib.Seq.{get_or-append-add}
use Rattle.finite.specs.Finite.{any, tab, collect}
use Rattle.finite.proofs.Bools.{dec, clash, refute, both, cond-true, cond-false, cond-case}
use Rattle.finite.proofs.Search.{below_suc, any-true, any_found, all_true}
use Rattle.finite.proofs.Tables.{tab-at, tab-past}
use Rattle.finite.proofs.Collecting.{collect-same, collect-most}
use Rattle.model.specs.Cell.{Cell, blank, is_blank, equal}
use Rattle.model.proofs.CellLaws.{blank-is}
use Rattle.model.specs.Scheme as Model
use Rattle.model.specs.Scheme.{Scheme}
use Rattle.model.specs.Database.{Database, has}
use Rattle.state.specs.Cells.{Cells, cells_in}
use Rattle.state.specs.declared.cell.Cell as State-cell
use Rattle.state.specs.declared.design.Design.{Design}
use Rattle.state.specs.Meaning.{cell_of, cell_at, free_table, scheme_of, database_of}
use Rattle.state.specs.Lawful.{fits_table, row_fits, stood_below, repeats_at, repeats, blank_row, lawful_design, lawful_rows}
use Rattle.state.proofs.Places.{used-is, unused-is, where-used}
use Rattle.state.proofs.RowLaws.{cell-at}
use Rattle.format.specs.Writing.{row_bytes, design_bytes, Dense, numbers_left, cells_left, compact}
use Rattle.format.proofs.RowText.{text_same, row-text}
use Rattle.format.proofs.Lengths.{framed, bytes-dense}
use Rattle.format.proofs.LawfulLaws.{RowParts, row_test, no_row, parts, dense-rows, whole-rows}

-- ---- the numbers that pass a test, rising

-- ns are the numbers below n that pass
record Left (p : ℕ → Bool) (n : ℕ) (ns : List ℕ) : Type 0 where
  below : (k : ℕ) → k < length ns → get_or ns k 0 < n
  passes : (k : ℕ) → k < length ns → p (get_or ns k 0) ≡ true
  rises : (j k : ℕ) → j < k → k < length ns → get_or ns j 0 < get_or ns k 0
  collected : (f : ℕ → List ℕ) → collect n p f ≡ collect (length ns) (λ _. true) (λ k. f (get_or ns k 0))

-- number n passes
module _ (p : ℕ → Bool) (n : ℕ) (ns : List ℕ) (h : Left p n ns) (e : p n ≡ true) where
  abbrev more : List ℕ
  more = ns ++ (n ∷ [])

  long : length more ≡ suc (length ns)
  long = length-append ns (n ∷ []) ∙ add-one (length ns)

  old : (k : ℕ) → k < length ns → get_or more k 0 ≡ get_or ns k 0
  old k l = get_or-append ns (n ∷ []) 0 k l

  new : (k : ℕ) → k ≡ length ns → get_or more k 0 ≡ n
  new k q = let z : k ≡ length ns + 0 = omega arith in ap (λ (i : ℕ). get_or more i 0) z ∙ get_or-append-add ns (n ∷ []) 0 0

  -- the last or an earlier one
  at : (k : ℕ) → k < length more → (k ≡ length ns) ⊎ (k < length ns)
  at k l = below_suc (omega (arith, l, long))

  left-more : Left p (suc n) more
  unfolding collect
  left-more =
      record {
        below = λ k l. ⊎_elim (λ (q : k ≡ length ns). omega (arith, new k q)) (λ (q : k < length ns). omega (arith, old k q, h.below k q)) (at k l);
        passes = λ k l. ⊎_elim (λ (q : k ≡ length ns). ap p (new k q) ∙ e) (λ (q : k < length ns). ap p (old k q) ∙ h.passes k q) (at k l);
        rises = λ j k b l. ⊎_elim (λ (q : k ≡ length ns). omega (arith, new k q, old j (omega arith), h.below j (omega arith)))
            (λ (q : k < length ns). omega (arith, old k q, old j (omega arith), h.rises j k b q)) (at k l);
        collected = λ f.
            ap (λ (b : Bool). collect n p f ++ cond b (f n) []) e ∙ ap₂ ◌++◌ (h.collected f) (ap f (sym (new (length ns) refl))) ∙
            ap (λ (l : List ℕ). l ++ f (get_or more (length ns) 0))
            (collect-same (length ns) (λ _. true) (λ _. true) (λ k. f (get_or ns k 0)) (λ k. f (get_or more k 0)) (λ k l. refl) (λ k l z. ap f (sym (old k l)))) ∙
            ap (λ (m : ℕ). collect m (λ _. true) (λ k. f (get_or more k 0))) (sym long);
      }

-- it doesn't
left-same : (p : ℕ → Bool) (n : ℕ) (ns : List ℕ) → Left p n ns → p n ≡ false → Left p (suc n) ns
unfolding collect
left-same p n ns h e =
    record {
      below = λ k l. let z = h.below k l in omega arith;
      passes = h.passes;
      rises = h.rises;
      collected = λ f. ap (λ (b : Bool). collect n p f ++ cond b (f n) []) e ∙ append-nil (collect n p f) ∙ h.collected f;
    }

left : (p : ℕ → Bool) (n : ℕ) → Left p n (collect n p (λ r. r ∷ []))
unfolding collect
left p zero = record { below = λ k l. absurd (omega arith); passes = λ k l. absurd (omega arith); rises = λ j k b l. absurd (omega arith); collected = λ f. refl }
left p (suc n) = go (p n) refl (left p n)
  where
    go : (b : Bool) → p n ≡ b → Left p n (collect n p (λ r. r ∷ [])) → Left p (suc n) (collect n p (λ r. r ∷ []) ++ cond b (n ∷ []) [])
    go true e h = left-more p n (collect n p (λ r. r ∷ [])) h e
    go false e h = subst (Left p (suc n)) (sym (append-nil (collect n p (λ r. r ∷ [])))) (left-same p n (collect n p (λ r. r ∷ [])) h e)

-- ---- the cells' numbers or issues of the rows left

module _ (ns xs : List ℕ) where
  abbrev cell_left : ℕ → ℕ
  cell_left x = cond (ltb (x / 8) (length ns)) (get_or xs (8 * get_or ns (x / 8) 0 + x % 8) 0) 0

  left_at : (k c : ℕ) → k < 512 → k < length ns → c < 8 → get_or (cells_left ns xs) (8 * k + c) 0 ≡ get_or xs (8 * get_or ns k 0 + c) 0
  left_at k c l h b =
      let y : (8 * k + c) / 8 ≡ k = omega arith in
      let z : (8 * k + c) % 8 ≡ c = omega arith in
      tab-at 0 4096 cell_left (8 * k + c) (omega arith) ∙
      ap₂ (λ (i j : ℕ). cond (ltb i (length ns)) (get_or xs (8 * get_or ns i 0 + j) 0) 0) y z ∙ cond-true (ltb k (length ns)) _ 0 (lt-ltb k (length ns) h)

  left-past : (k c : ℕ) → k < 512 → length ns ≤ k → c < 8 → get_or (cells_left ns xs) (8 * k + c) 0 ≡ 0
  left-past k c l h b =
      let y : (8 * k + c) / 8 ≡ k = omega arith in
      tab-at 0 4096 cell_left (8 * k + c) (omega arith) ∙ cond-false (ltb ((8 * k + c) / 8) (length ns)) _ 0 (le-ltb ((8 * k + c) / 8) (length ns) (omega arith))

  -- none is larger than those
  pub left-small : (b : ℕ) → 0 < b → ((i : ℕ) → get_or xs i 0 < b) → (x : ℕ) → get_or (cells_left ns xs) x 0 < b
  left-small b z h x =
      ⊎_elim (λ (e : ltb x 4096 ≡ true). subst (λ (v : ℕ). v < b) (sym (tab-at 0 4096 cell_left x (ltb-true x 4096 e)))
      (cond-case (λ v. v < b) (ltb (x / 8) (length ns)) (get_or xs (8 * get_or ns (x / 8) 0 + x % 8) 0) 0 (λ _. h _) (λ _. z)))
      (λ (e : ltb x 4096 ≡ false). subst (λ (v : ℕ). v < b) (sym (tab-past 0 4096 cell_left x (ltb-false x 4096 e))) z) (dec (ltb x 4096))

-- ---- the rows left

module _ (d : Design) (cells : Cells) (tables : List ℕ) where
  abbrev S : Scheme
  S = scheme_of d

  abbrev D : Database
  D = database_of cells tables

  abbrev ns : List ℕ
  ns = numbers_left cells tables

  -- the number that row k had
  abbrev was : ℕ → ℕ
  was k = get_or ns k 0

  abbrev new_cells : Cells
  new_cells = cells_in (cells_left ns cells.numbers) (cells_left ns cells.issues)

  abbrev new_tables : List ℕ
  new_tables = tab 512 (λ r. cond (ltb r (length ns)) (get_or tables (was r) 0) free_table)

  abbrev E : Database
  E = database_of new_cells new_tables

  found : Left D.live 512 ns
  found = left D.live 512

  few : length ns ≤ 512
  few = let h = collect-most 512 1 D.live (λ r. r ∷ []) (λ i. omega arith) in omega arith

  module _ (k : ℕ) (l : k < length ns) where
    new-table : get_or new_tables k 0 ≡ get_or tables (was k) 0
    new-table =
        tab-at 0 512 (λ r. cond (ltb r (length ns)) (get_or tables (was r) 0) free_table) k (let h = few in omega arith) ∙
        cond-true (ltb k (length ns)) _ _ (lt-ltb k (length ns) l)

    new-cell : (c : ℕ) → c < 8 → cell_at new_cells k c ≡ cell_at cells (was k) c
    new-cell c b = λ i. record {
      number = left_at ns cells.numbers k c (omega (arith, few)) l b i;
      issue = left_at ns cells.issues k c (omega (arith, few)) l b i;
    }

    cell_same : (c : ℕ) → E.cell k c ≡ D.cell (was k) c
    unfolding database_of
    cell_same c = go (ltb c 8) refl
      where
        go : (b : Bool) → ltb c 8 ≡ b → cond b (cell_of (cell_at new_cells k c)) blank ≡ cond b (cell_of (cell_at cells (was k) c)) blank
        go true e = ap cell_of (new-cell c (ltb-true c 8 e))
        go false e = refl

    row_same : row_fits S E k ≡ row_fits S D (was k)
    unfolding row_fits database_of
    row_same = ap₂ (fits_table S) new-table (λ i c. cell_same c i)

    was-live : D.live (was k) ≡ true
    was-live = found.passes k l

    was-fits : lawful_rows d cells tables ≡ true → row_test S D (was k) ≡ true
    unfolding lawful_rows
    was-fits g = where-used 512 D.live (row_test S D) (blank_row D) g (was k) (found.below k l) was-live

    -- it has what it had
    has-was : (c : Model.Column) (v : Cell) → has E c v k ≡ true → has D c v (was k) ≡ true
    unfolding has database_of
    has-was c v h =
        let x = (and-eq-true_iff (E.live k) (eqb (get_or new_tables k 0) c.table && equal (E.cell k c.place) v)).0 h in
        both was-live (ap₂ (λ (t : ℕ) (w : Cell). eqb t c.table && equal w v) (sym new-table) (sym (cell_same c.place)) ∙ x.1)

  -- it repeats nothing that it hadn't
  once : (k : ℕ) → k < length ns → repeats S D (was k) ≡ false → repeats S E k ≡ false
  unfolding repeats repeats_at database_of
  once k l g = refute (repeats S E k) (λ h. go (any_found 8 (repeats_at S E k) h))
    where
      go : (c : ℕ) × (c < 8) × (repeats_at S E k c ≡ true) → ⊥
      go x = again (any_found k (has E col v) u.1)
        where
          c : ℕ
          c = x.0

          col : Model.Column
          col = record { table = get_or new_tables k 0; place = c }

          v : Cell
          v = E.cell k c

          u : (S.unique col ≡ true) × (any k (has E col v) ≡ true)
          u = (and-eq-true_iff (S.unique col) (any k (has E col v))).0 x.2

          again : (j : ℕ) × (j < k) × (has E col v j ≡ true) → ⊥
          again y =
              let j = y.0 in
              let there : stood_below S D (was k) col v ≡ true =
              both u.0 (any-true (was k) (has D col v) (was j) (found.rises j k y.1 l) (has-was j (let b = y.1 in omega arith) col v y.2)) in
              let same : repeats_at S D (was k) c ≡ true =
              ap₂ (λ (t : ℕ) (w : Cell). stood_below S D (was k) (record { table = t; place = c }) w) (sym (new-table k l)) (sym (cell_same k l c)) ∙ there in
              clash (any-true 8 (repeats_at S D (was k)) c x.1 same) g

  past : (r : ℕ) → r < 512 → length ns ≤ r → no_row E r ≡ true
  unfolding no_row blank_row database_of blank
  past r l h =
      both
      (eq-eqb _ _ (tab-at 0 512 (λ q. cond (ltb q (length ns)) (get_or tables (was q) 0) free_table) r l ∙ cond-false (ltb r (length ns)) _ _ (le-ltb r (length ns) h)))
      (all_true 8 _ (λ c b. ap is_blank (cell-at new_cells new_tables r c b ∙ none c b) ∙ blank-is))
    where
      none : (c : ℕ) → c < 8 → cell_of (cell_at new_cells r c) ≡ blank
      none c b = λ i. record { number = left-past ns cells.numbers r c l h b i; issue = left-past ns cells.issues r c l h b i }

  module _ (h : lawful_design d ≡ true) (g : lawful_rows d cells tables ≡ true) where
    row-parts-left : RowParts d (length ns) new_cells new_tables
    row-parts-left = record { row = λ r l. ⊎_elim (used r) (unused r l) (dec (ltb r (length ns))) }
      where
        used : (r : ℕ) → ltb r (length ns) ≡ true → cond (ltb r (length ns)) (row_test S E r) (no_row E r) ≡ true
        used r e =
            let b = ltb-true r (length ns) e in
            let x = (and-eq-true_iff (row_fits S D (was r)) (not (repeats S D (was r)))).0 (was-fits r b g) in
            used-is r (length ns) (row_test S E r) (no_row E r) b ∙ both (row_same r b ∙ x.0) (ap not (once r b (not-true (repeats S D (was r)) x.1)))

        unused : (r : ℕ) → r < 512 → ltb r (length ns) ≡ false → cond (ltb r (length ns)) (row_test S E r) (no_row E r) ≡ true
        unused r l e = let b = ltb-false r (length ns) e in unused-is r (length ns) (row_test S E r) (no_row E r) b ∙ past r l b

    pub compact-dense : Dense (compact d cells tables).rows (compact d cells tables).cells (compact d cells tables).tables
    unfolding compact
    compact-dense = dense-rows d (length ns) new_cells new_tables (parts d h) row-parts-left few

    pub compact-lawful : lawful_rows d (compact d cells tables).cells (compact d cells tables).tables ≡ true
    unfolding compact
    compact-lawful = whole-rows d (length ns) new_cells new_tables (parts d h) row-parts-left

    -- "Writing the design writes the rows left, in rising number": those of the renumbered rows
    pub compact-written : design_bytes d (compact d cells tables).cells (compact d cells tables).tables ≡ design_bytes d cells tables
    unfolding compact design_bytes
    compact-written =
        bytes-dense d (length ns) new_cells new_tables (dense-rows d (length ns) new_cells new_tables (parts d h) row-parts-left few) ∙
        ap (framed d)
        (collect-same (length ns) (λ _. true) (λ _. true) (row_bytes new_cells new_tables) (λ k. row_bytes cells tables (was k)) (λ k l. refl) (λ k l e. same k l) ∙
        sym (found.collected (row_bytes cells tables)))
      where
        same : (k : ℕ) → k < length ns → row_bytes new_cells new_tables k ≡ row_bytes cells tables (was k)
        same k l =
            row-text new_cells new_tables k ∙
            text_same _ _ _ _ _ _ (new-table k l) (λ c b. ap (λ (v : State-cell.Cell). v.number) (new-cell k l c b)) (λ c b. ap (λ (v : State-cell.Cell). v.issue) (new-cell k l c b)) ∙
            sym (row-text cells tables (was k))
