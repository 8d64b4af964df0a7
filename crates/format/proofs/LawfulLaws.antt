-- A lawful design place by place, lawful rows without gaps number by number, and what the test of an item looks at: only what stands before the item.
-- Assumes nothing.
use Prim.Native.Nat.{ℕ, ◌≤◌, ◌<◌}
use native.Mathlib.Omega.{arith}
use mathlib.Core.Path.{◌≡◌, refl, sym, ap, ap₂, ◌∙◌}
use mathlib.Core.Bool.{Bool, true, false, not, cond, ◌&&◌, and-eq-true_iff}
use mathlib.Core.Logic.{⊎_elim}
use mathlib.Core.List.{List}
use borrow.Author.Tests.{ltb-true, ltb-false, leb-true, le-leb, eqb-true, eq-eqb, ne_eqb, not-false}
use lib.Dec.{eqb, leb, ltb}
use lib.ListN.{get_or}
use Rattle.finite.specs.Finite.{any, all}
use Rattle.finite.proofs.Bools.{dec, both, cond-true, cond-false}
use Rattle.finite.proofs.Search.{any_same, all_same, all-at, all_true}
use Rattle.model.specs.Cell.{Cell, blank, is_blank, equal}
use Rattle.model.specs.Scheme as Model
use Rattle.model.specs.Scheme.{is_column, same_column, Scheme}
use Rattle.model.specs.Database.{Database, has}
use Rattle.state.specs.Cells.{Cells}
use Rattle.state.specs.declared.cell.Cell as State-cell
use Rattle.state.specs.declared.design.Constraint.{Constraint}
use Rattle.state.specs.declared.design.Filling.{Filling}
use Rattle.state.specs.declared.design.Design.{Design}
use Rattle.state.specs.Design.{table_at, constraint_at, filling_at}
use Rattle.state.specs.Meaning.{cell_of, cell_at, free_table, column_of, scheme_of, database_of}
use Rattle.state.specs.Lawful.{used_or, table_fits, zero_table, same_constraint, constraint_fits, zero_constraint, filling_fits, zero_filling, counts_fit, lawful_design, cell_fits, row_fits, repeats_at, repeats, blank_row, lawful_rows}
use Rattle.state.proofs.Places.{used-is, unused-is}
use Rattle.state.proofs.RowLaws.{live_at}
use Rattle.format.specs.Writing.{Dense}

-- ---- a lawful design, place by place

pub record Parts (d : Design) : Type 0 where
  pub tables : d.tables ≤ 8
  pub constraints : d.constraints ≤ 16
  pub fillings : d.fillings ≤ 8
  pub table : (i : ℕ) → i < 8 → used_or i d.tables (table_fits (table_at d i)) (zero_table (table_at d i)) ≡ true
  pub constraint : (i : ℕ) → i < 16 → used_or i d.constraints (constraint_fits d i (constraint_at d i)) (zero_constraint (constraint_at d i)) ≡ true
  pub filling : (i : ℕ) → i < 8 → used_or i d.fillings (filling_fits d i (filling_at d i)) (zero_filling (filling_at d i)) ≡ true

pub parts : (d : Design) → lawful_design d ≡ true → Parts d
unfolding lawful_design counts_fit
parts d h =
    let ts = all 8 (λ i. used_or i d.tables (table_fits (table_at d i)) (zero_table (table_at d i))) in
    let cs = all 16 (λ i. used_or i d.constraints (constraint_fits d i (constraint_at d i)) (zero_constraint (constraint_at d i))) in
    let fs = all 8 (λ i. used_or i d.fillings (filling_fits d i (filling_at d i)) (zero_filling (filling_at d i))) in
    let a = (and-eq-true_iff (counts_fit d) (ts && (cs && fs))).0 h in
    let b = (and-eq-true_iff ts (cs && fs)).0 a.1 in
    let c = (and-eq-true_iff cs fs).0 b.1 in
    let n = (and-eq-true_iff (leb d.tables 8) (leb d.constraints 16 && leb d.fillings 8)).0 a.0 in
    let o = (and-eq-true_iff (leb d.constraints 16) (leb d.fillings 8)).0 n.1 in
    record {
      tables = leb-true _ _ n.0;
      constraints = leb-true _ _ o.0;
      fillings = leb-true _ _ o.1;
      table = all-at 8 _ b.0;
      constraint = all-at 16 _ c.0;
      filling = all-at 8 _ c.1;
    }

pub whole : (d : Design) → Parts d → lawful_design d ≡ true
unfolding lawful_design counts_fit
whole d p =
    both (both (le-leb _ _ p.tables) (both (le-leb _ _ p.constraints) (le-leb _ _ p.fillings)))
    (both (all_true 8 _ p.table) (both (all_true 16 _ p.constraint) (all_true 8 _ p.filling)))

-- ---- what the tests of constraints and fillings look at

module _ (d e : Design) (counts : d.tables ≡ e.tables) (tables : (t : ℕ) → table_at d t ≡ table_at e t) where
  pub column-same : (k : Model.Column) → is_column (scheme_of d) k ≡ is_column (scheme_of e) k
  unfolding is_column scheme_of
  column-same k = ap₂ (λ n t. ltb k.table n && ltb k.place t.columns) counts (tables k.table)

  pub constraint-fits-same : (n : ℕ) (c : Constraint) → ((i : ℕ) → i < n → constraint_at d i ≡ constraint_at e i) → constraint_fits d n c ≡ constraint_fits e n c
  unfolding constraint_fits
  constraint-fits-same n c h =
      ap₂ ◌&&◌ (column-same (column_of c.source))
      (ap₂ ◌&&◌ (column-same (column_of c.target)) (ap not (any_same n _ _ (λ i l. ap (λ x. same_constraint x c) (h i l)))))

  pub filling-fits-same : (n : ℕ) (f : Filling) → ((i : ℕ) → i < n → filling_at d i ≡ filling_at e i) → filling_fits d n f ≡ filling_fits e n f
  unfolding filling_fits
  filling-fits-same n f h =
      ap₂ ◌&&◌ (column-same (column_of f.column))
      (ap (λ (b : Bool). leb 1 f.low && (leb f.low f.high && not b))
      (any_same n _ _ (λ i l. ap (λ x. same_column (column_of x.column) (column_of f.column)) (h i l))))

-- ---- lawful rows without gaps, number by number

-- row r is tested and passes, or the number is free and has no cell
abbrev pub row_test : Scheme → Database → ℕ → Bool
row_test S D r = row_fits S D r && not (repeats S D r)

unfoldable pub no_row : Database → ℕ → Bool
no_row D r = eqb (D.table r) free_table && blank_row D r

-- the numbers below n have a row
pub record RowParts (d : Design) (n : ℕ) (cells : Cells) (tables : List ℕ) : Type 0 where
  pub row : (r : ℕ) → r < 512 → used_or r n (row_test (scheme_of d) (database_of cells tables) r) (no_row (database_of cells tables) r) ≡ true

module _ (d : Design) (n : ℕ) (cells : Cells) (tables : List ℕ) where
  abbrev S : Scheme
  S = scheme_of d

  abbrev D : Database
  D = database_of cells tables

  -- what stands at number r, if it is lawful
  abbrev standing : ℕ → Bool
  standing r = cond (D.live r) (row_test S D r) (blank_row D r)

  free-table : (r : ℕ) → r < 512 → D.live r ≡ false → get_or tables r 0 ≡ free_table
  free-table r l h = eqb-true _ _ (not-false (eqb (get_or tables r 0) free_table) (sym (live_at cells tables r l) ∙ h))

  pub row-parts : lawful_rows d cells tables ≡ true → Dense n cells tables → RowParts d n cells tables
  unfolding lawful_rows no_row database_of
  row-parts h g = record { row = λ r l. ⊎_elim (used r l) (unused r l) (dec (ltb r n)) }
    where
      stands : (r : ℕ) → r < 512 → standing r ≡ true
      stands = all-at 512 standing h

      used : (r : ℕ) → r < 512 → ltb r n ≡ true → used_or r n (row_test S D r) (no_row D r) ≡ true
      used r l e = cond-true (ltb r n) _ _ e ∙ sym (cond-true (D.live r) (row_test S D r) (blank_row D r) (g.live r l ∙ e)) ∙ stands r l

      unused : (r : ℕ) → r < 512 → ltb r n ≡ false → used_or r n (row_test S D r) (no_row D r) ≡ true
      unused r l e =
          let z : D.live r ≡ false = g.live r l ∙ e in
          cond-false (ltb r n) _ _ e ∙ both (eq-eqb _ _ (free-table r l z)) (sym (cond-false (D.live r) (row_test S D r) (blank_row D r) z) ∙ stands r l)

  -- a row that fits has one of the tables
  pub fits-live : Parts d → (r : ℕ) → r < 512 → row_fits S D r ≡ true → D.live r ≡ true
  unfolding row_fits scheme_of database_of
  fits-live p r l f =
      let a = ltb-true (get_or tables r 0) d.tables ((and-eq-true_iff (ltb (get_or tables r 0) d.tables) _).0 f).0 in
      live_at cells tables r l ∙ ap not (ne_eqb _ _ (λ (e : get_or tables r 0 ≡ free_table). omega (arith, a, p.tables)))

  module _ (p : Parts d) (q : RowParts d n cells tables) where
    below-live : (r : ℕ) → r < 512 → r < n → D.live r ≡ true
    below-live r l h =
        fits-live p r l ((and-eq-true_iff (row_fits S D r) (not (repeats S D r))).0 (sym (used-is r n (row_test S D r) (no_row D r) h) ∙ q.row r l)).0

    past : (r : ℕ) → r < 512 → n ≤ r → (get_or tables r 0 ≡ free_table) × (blank_row D r ≡ true)
    unfolding no_row database_of
    past r l h =
        let x = (and-eq-true_iff (eqb (get_or tables r 0) free_table) (blank_row D r)).0 (sym (unused-is r n (row_test S D r) (no_row D r) h) ∙ q.row r l) in
        (eqb-true _ _ x.0, x.1)

    past-free : (r : ℕ) → r < 512 → n ≤ r → D.live r ≡ false
    past-free r l h = live_at cells tables r l ∙ ap not (eq-eqb _ _ (past r l h).0)

    pub dense-rows : n ≤ 512 → Dense n cells tables
    dense-rows m =
        record {
          most = m;
          live = λ r l. ⊎_elim (λ (e : ltb r n ≡ true). below-live r l (ltb-true r n e) ∙ sym e) (λ (e : ltb r n ≡ false). past-free r l (ltb-false r n e) ∙ sym e)
              (dec (ltb r n));
        }

    pub whole-rows : lawful_rows d cells tables ≡ true
    unfolding lawful_rows
    whole-rows = all_true 512 standing (λ r l. ⊎_elim (used r l) (unused r l) (dec (ltb r n)))
      where
        used : (r : ℕ) → r < 512 → ltb r n ≡ true → standing r ≡ true
        used r l e =
            let h = ltb-true r n e in
            cond-true (D.live r) _ _ (below-live r l h) ∙ sym (used-is r n (row_test S D r) (no_row D r) h) ∙ q.row r l

        unused : (r : ℕ) → r < 512 → ltb r n ≡ false → standing r ≡ true
        unused r l e = let h = ltb-false r n e in cond-false (D.live r) _ _ (past-free r l h) ∙ (past r l h).1

-- ---- what the tests of a row look at

-- the two databases have one row under number r
pub record SameRow (D E : Database) (r : ℕ) : Type 0 where
  pub table : D.table r ≡ E.table r
  pub cell : (c : ℕ) → D.cell r c ≡ E.cell r c

pub same_row : (cells cells' : Cells) (tables tables' : List ℕ) (r : ℕ) → get_or tables r 0 ≡ get_or tables' r 0
    → ((c : ℕ) → c < 8 → cell_at cells r c ≡ cell_at cells' r c) → SameRow (database_of cells tables) (database_of cells' tables') r
unfolding database_of
same_row cells cells' tables tables' r t h = record { table = t; cell = λ c. go c (ltb c 8) (λ e. h c (ltb-true c 8 e)) refl }
  where
    go : (c : ℕ) (b : Bool) → (b ≡ true → cell_at cells r c ≡ cell_at cells' r c) → ltb c 8 ≡ b
        → cond (ltb c 8) (cell_of (cell_at cells r c)) blank ≡ cond (ltb c 8) (cell_of (cell_at cells' r c)) blank
    go c true g e = ap (λ (x : State-cell.Cell). cond (ltb c 8) (cell_of x) blank) (g refl)
    go c false g e = cond-false (ltb c 8) (cell_of (cell_at cells r c)) blank e ∙ sym (cond-false (ltb c 8) (cell_of (cell_at cells' r c)) blank e)

pub live_same : (cells cells' : Cells) (tables tables' : List ℕ) (r : ℕ) → get_or tables r 0 ≡ get_or tables' r 0
    → (database_of cells tables).live r ≡ (database_of cells' tables').live r
unfolding database_of
live_same cells cells' tables tables' r h = ap (λ (t : ℕ). ltb r 512 && not (eqb t free_table)) h

module _ (S : Scheme) (D E : Database) (r : ℕ) (same : SameRow D E r) where
  pub row-fits-same : row_fits S D r ≡ row_fits S E r
  unfolding row_fits
  row-fits-same =
      ap₂ ◌&&◌ (ap (λ (t : ℕ). ltb t S.tables) same.table)
      (all_same 8 _ _ (λ c l. ap₂ (λ t v. cell_fits (S.columns t) c v) same.table (same.cell c)))

  pub no-row-same : no_row D r ≡ no_row E r
  unfolding no_row blank_row
  no-row-same = ap₂ ◌&&◌ (ap (λ (t : ℕ). eqb t free_table) same.table) (all_same 8 _ _ (λ c l. ap is_blank (same.cell c)))

  module _ (before : (q : ℕ) → q < r → SameRow D E q) (live : (q : ℕ) → q < r → D.live q ≡ E.live q) where
    has_same : (k : Model.Column) (v : Cell) (q : ℕ) → q < r → has D k v q ≡ has E k v q
    unfolding has
    has_same k v q l =
        ap₂ ◌&&◌ (live q l) (ap₂ (λ t x. eqb t k.table && equal x v) (before q l).table ((before q l).cell k.place))

    repeats-at-same : (c : ℕ) → repeats_at S D r c ≡ repeats_at S E r c
    unfolding repeats_at
    repeats-at-same c =
        ap₂ (λ t v. let k : Model.Column = record { table = t; place = c } in S.unique k && any r (has D k v)) same.table (same.cell c) ∙
        ap (λ (b : Bool). S.unique (record { table = E.table r; place = c }) && b) (any_same r _ _ (λ q l. has_same _ _ q l))

    pub repeats-same : repeats S D r ≡ repeats S E r
    unfolding repeats
    repeats-same = any_same 8 _ _ (λ c l. repeats-at-same c)

    pub row-test-same : row_test S D r ≡ row_test S E r
    row-test-same = ap₂ (λ a b. a && not b) row-fits-same repeats-same
