-- A row that is stored among the lent rows: the tables that these then are, at its number and at the others, and that they stay lawful. Assumes nothing.
use Prim.Native.Nat.{ℕ, ◌+◌, ◌-◌, ◌*◌, ◌^◌, ◌≤◌, ◌<◌}
use native.Mathlib.Omega.{arith}
use mathlib.Core.Path.{◌≡◌, sym, ap, ap₂, subst, ◌∙◌}
use mathlib.Core.Logic.{◌⊎◌, ⊎_elim}
use mathlib.Core.Bool.{Bool, true, false, not, ◌&&◌, and-eq-true_iff}
use mathlib.Core.List.{List}
use denote.Laws.{Is}
use denote.Struct.Declared.{row}
use mir.Val.{Val}
use borrow.Author.Tests.{lt-ltb, ltb-true, ltb-false, ne_eqb}
use lib.Dec.{eqb, ltb}
use lib.ListN.{length, get_or, length-set}
use lib.Seq.{sets, length-sets, get_or-set_same, get_or-set_other}
use Rattle.finite.specs.Finite.{all}
use Rattle.finite.proofs.Bools.{dec, order, same_number, both, clash}
use Rattle.finite.proofs.Search.{any-true, all_true, all_same}
use Rattle.finite.proofs.Tables.{length-tab, tab-at, tab-past}
use Rattle.finite.proofs.Stores.{sets_below, sets-above, sets-at}
use Rattle.model.specs.Cell.{Cell, blank, is_blank, equal}
use Rattle.model.specs.Scheme.{Column}
use Rattle.model.specs.Database.{Database, Has, has}
use Rattle.model.proofs.CellLaws.{blank-is, equal-same, equal-full}
use Rattle.model.proofs.DatabaseLaws.{Has-has}
use Rattle.state.specs.declared.design.Design.{Design}
use Rattle.state.specs.declared.rows.Row.{Row}
use Rattle.state.specs.Design.{Backed}
use Rattle.state.specs.Meaning.{free_table, scheme_of, database_of}
use Rattle.state.specs.Lawful.{cell_fits, fits_table, row_fits, blank_row, stood_below, lawful_rows}
use Rattle.state.specs.Changes.{Rows, tables_of, row_cell, free_row, stored, stands}
use Rattle.state.proofs.RowLaws.{cell-at}
use Rattle.state.proofs.Places.{all-where}
use Rattle.state.specs.contracts.rows.Row.{the_type}
use Rattle.lawful.specs.Parts.{rows_stand}
use Rattle.lawful.proofs.RowsLaws.{cell-past, live_below, unique-says, lawful-stand, stand-used, stand-unused, stand-lawful, Stored}

-- ---- a row as an operand

-- it has eight cells, as its type says: of a first parameter x, `row_sized c.args.x _ c.good.0`
pub record RowSized (x : Row) : Type 0 where
  pub numbers : length x.numbers ≡ 8
  pub issues : length x.issues ≡ 8

pub row_sized : (x : Row) (vs : List Val) → Is (row the_type) x vs → RowSized x
row_sized x vs g = record { numbers = g.1.1.1.0.1.0.1; issues = g.1.1.1.1.0.1.0.1 }

-- what stands at a free number
pub free-sized : RowSized free_row
free-sized = record { numbers = length-tab 8 _; issues = length-tab 8 _ }

free-zero : (i : ℕ) → get_or free_row.numbers i 0 ≡ 0
free-zero i =
    ⊎_elim (λ (e : ltb i 8 ≡ true). tab-at 0 8 _ i (ltb-true i 8 e)) (λ (e : ltb i 8 ≡ false). tab-past 0 8 _ i (ltb-false i 8 e)) (dec (ltb i 8))

free-blank : (c : ℕ) → row_cell free_row c ≡ blank
unfolding blank
free-blank c = λ i. record { number = free-zero c i; issue = free-zero c i }

-- ---- one list of the lent cells

module _ (l vs : List ℕ) (n : length vs ≡ 8) (r : ℕ) where
  part_same : r < 512 → 4096 ≤ length l → (c : ℕ) → c < 8 → get_or (sets l (8 * r) vs) (8 * r + c) 0 ≡ get_or vs c 0
  part_same h k c b = sets-at 0 l (8 * r) vs c (omega arith) (omega arith)

  part-other : (q c : ℕ) → (q ≡ r → ⊥) → c < 8 → get_or (sets l (8 * r) vs) (8 * q + c) 0 ≡ get_or l (8 * q + c) 0
  part-other q c h b =
      ⊎_elim (λ (k : q < r). sets_below 0 l (8 * r) vs (8 * q + c) (omega arith))
      (λ (k : (q ≡ r) ⊎ (r < q)). ⊎_elim (λ (e : q ≡ r). absurd (h e)) (λ (g : r < q). sets-above 0 l (8 * r) vs (8 * q + c) (omega arith)) k)
      (order q r)

-- ---- the tables that the rows then are

module _ (R : Rows) (r : ℕ) (x : Row) (z : RowSized x) where
  abbrev after : Database
  after = tables_of (stored R r x)

  -- at the other numbers as before
  module _ (q : ℕ) (h : (q ≡ r → ⊥)) where
    pub table-other : after.table q ≡ (tables_of R).table q
    unfolding stored database_of
    table-other = get_or-set_other R.tables r q x.table 0 h

    pub live-other : after.live q ≡ (tables_of R).live q
    unfolding stored database_of
    live-other = ap (λ (t : ℕ). ltb q 512 && not (eqb t free_table)) (get_or-set_other R.tables r q x.table 0 h)

    pub cell_other : (c : ℕ) → after.cell q c ≡ (tables_of R).cell q c
    unfolding stored
    cell_other c =
        ⊎_elim (λ (e : ltb c 8 ≡ true). let b = ltb-true c 8 e in
        cell-at (stored R r x).cells (stored R r x).tables q c b ∙
        (λ i. record {
          number = part-other R.cells.numbers x.numbers z.numbers r q c h b i;
          issue = part-other R.cells.issues x.issues z.issues r q c h b i;
        }) ∙ sym (cell-at R.cells R.tables q c b))
        (λ (e : ltb c 8 ≡ false). let b = ltb-false c 8 e in
        cell-past (stored R r x).cells (stored R r x).tables q c b ∙ sym (cell-past R.cells R.tables q c b))
        (dec (ltb c 8))

    pub has-before : (k : Column) (v : Cell) → Has after k v q → Has (tables_of R) k v q
    has-before k v a =
        record {
          live = sym live-other ∙ a.live;
          table = sym table-other ∙ a.table;
          value = ap (λ (b : Cell). equal b v) (sym (cell_other k.place)) ∙ a.value;
        }

  -- at its own number the row
  module _ (l : r < 512) (b : Backed R.cells R.tables) where
    pub table_same : after.table r ≡ x.table
    unfolding stored database_of
    table_same = get_or-set_same R.tables r x.table 0 (omega (arith, b.members))

    pub live_same : after.live r ≡ not (eqb x.table free_table)
    unfolding stored database_of
    live_same = ap₂ (λ (u : Bool) (t : ℕ). u && not (eqb t free_table)) (lt-ltb r 512 l) (get_or-set_same R.tables r x.table 0 (omega (arith, b.members)))

    pub cell_same : (c : ℕ) → c < 8 → after.cell r c ≡ row_cell x c
    unfolding stored
    cell_same c k =
        cell-at (stored R r x).cells (stored R r x).tables r c k ∙
        (λ i. record {
          number = part_same R.cells.numbers x.numbers z.numbers r l b.rows c k i;
          issue = part_same R.cells.issues x.issues z.issues r l b.issued c k i;
        })

    -- ---- they stay lawful

    module _ (d : Design) where
      fits-same : row_fits (scheme_of d) after r ≡ fits_table (scheme_of d) x.table (row_cell x)
      unfolding row_fits
      fits-same =
          ap (λ (t : ℕ). fits_table (scheme_of d) t (after.cell r)) table_same ∙
          ap (λ (u : Bool). ltb x.table (scheme_of d).tables && u)
          (all_same 8 _ _ (λ c k. ap (cell_fits ((scheme_of d).columns x.table) c) (cell_same c k)))

      blank-same : blank_row after r ≡ all 8 (λ c. is_blank (row_cell x c))
      unfolding blank_row
      blank-same = all_same 8 _ _ (λ c k. ap is_blank (cell_same c k))

      fits-other : (q : ℕ) → (q ≡ r → ⊥) → row_fits (scheme_of d) after q ≡ row_fits (scheme_of d) (tables_of R) q
      unfolding row_fits
      fits-other q h =
          ap (λ (t : ℕ). fits_table (scheme_of d) t (after.cell q)) (table-other q h) ∙
          ap (λ (u : Bool). ltb ((tables_of R).table q) (scheme_of d).tables && u)
          (all_same 8 _ _ (λ c k. ap (cell_fits ((scheme_of d).columns ((tables_of R).table q)) c) (cell_other q h c)))

      blank-other : (q : ℕ) → (q ≡ r → ⊥) → blank_row after q ≡ blank_row (tables_of R) q
      unfolding blank_row
      blank-other q h = all_same 8 _ _ (λ c k. ap is_blank (cell_other q h c))

      -- a row that has a value of x in a unique column is found
      stands-found : stands (scheme_of d) R x ≡ false → (k : Column) (v : Cell) (q : ℕ) → (scheme_of d).unique k ≡ true → Has after k v r → Has (tables_of R) k v q → ⊥
      unfolding stands
      stands-found n k v q u a b =
          ⊎_elim (λ (e : ltb k.place 8 ≡ true). let p = ltb-true _ 8 e in
          clash
          (any-true 8 (λ c. stood_below (scheme_of d) (tables_of R) 512 (record { table = x.table; place = c }) (row_cell x c)) k.place p
          (both (subst (λ (m : Column). (scheme_of d).unique m ≡ true) here u)
          (any-true 512 _ q (live_below R.cells R.tables q b.live)
          (subst (λ (m : Column). has (tables_of R) m (row_cell x k.place) q ≡ true) here
          (subst (λ (w : Cell). has (tables_of R) k w q ≡ true) (sym (equal-same _ v a.value) ∙ cell_same k.place p) (Has-has b))))))
          n)
          (λ (e : ltb k.place 8 ≡ false).
          clash (ap is_blank (cell-past (stored R r x).cells (stored R r x).tables r k.place (ltb-false _ 8 e)) ∙ blank-is) (equal-full _ v a.value))
          (dec (ltb k.place 8))
        where
          here : k ≡ record { table = x.table; place = k.place }
          here = λ i. record { table = (sym a.table ∙ table_same) i; place = k.place }

      module _ (e : lawful_rows d R.cells R.tables ≡ true)
          (fits : after.live r ≡ true → fits_table (scheme_of d) x.table (row_cell x) ≡ true)
          (rest : after.live r ≡ false → all 8 (λ c. is_blank (row_cell x c)) ≡ true)
          (once : after.live r ≡ true → stands (scheme_of d) R x ≡ false) where
        stored-stands : rows_stand d (stored R r x).cells (stored R r x).tables ≡ true
        unfolding rows_stand
        stored-stands =
            let s = lawful-stand d R.cells R.tables e in
            all-where 512 after.live (row_fits (scheme_of d) after) (blank_row after)
            (λ q k a. ⊎_elim (λ (w : q ≡ r). subst (λ (m : ℕ). row_fits (scheme_of d) after m ≡ true) (sym w)
            (fits-same ∙ fits (subst (λ (m : ℕ). after.live m ≡ true) w a)))
            (λ (w : (q ≡ r → ⊥)). fits-other q w ∙ stand-used d R.cells R.tables s q k (sym (live-other q w) ∙ a))
            (same_number q r))
            (λ q k a. ⊎_elim (λ (w : q ≡ r). subst (λ (m : ℕ). blank_row after m ≡ true) (sym w)
            (blank-same ∙ rest (subst (λ (m : ℕ). after.live m ≡ false) w a)))
            (λ (w : (q ≡ r → ⊥)). blank-other q w ∙ stand-unused d R.cells R.tables s q k (sym (live-other q w) ∙ a))
            (same_number q r))

        -- of two rows with one value in a unique column, one of which is x
        met : (k : Column) (v : Cell) (q : ℕ) → (scheme_of d).unique k ≡ true → (q ≡ r → ⊥) → Has after k v r → Has after k v q → ⊥
        met k v q u w a c = stands-found (once a.live) k v q u a (has-before q w k v c)

        stored-once : (k : Column) (v : Cell) (p q : ℕ) → (scheme_of d).unique k ≡ true → Has after k v p → Has after k v q → p ≡ q
        stored-once k v p q u a c =
            ⊎_elim
            (λ (w : p ≡ r). ⊎_elim (λ (y : q ≡ r). w ∙ sym y)
            (λ (y : (q ≡ r → ⊥)). absurd (met k v q u y (subst (Has after k v) w a) c)) (same_number q r))
            (λ (w : (p ≡ r → ⊥)). ⊎_elim (λ (y : q ≡ r). absurd (met k v p u w (subst (Has after k v) y c) a))
            (λ (y : (q ≡ r → ⊥)). unique-says d R.cells R.tables e k v p q u (has-before p w k v a) (has-before q y k v c)) (same_number q r))
            (same_number p r)

        stored-lawful : lawful_rows d (stored R r x).cells (stored R r x).tables ≡ true
        stored-lawful = stand-lawful d (stored R r x).cells (stored R r x).tables stored-stands stored-once

-- a row that fits and whose values stand nowhere is put in
pub put-lawful : (R : Rows) (r : ℕ) (x : Row) → RowSized x → r < 512 → Backed R.cells R.tables → (d : Design) → d.tables ≤ 8 →
    lawful_rows d R.cells R.tables ≡ true → fits_table (scheme_of d) x.table (row_cell x) ≡ true → stands (scheme_of d) R x ≡ false →
    lawful_rows d (stored R r x).cells (stored R r x).tables ≡ true
unfolding scheme_of
put-lawful R r x z l b d t e f n =
    stored-lawful R r x z l b d e (λ _. f) (λ h. clash (live_same R r x z l b ∙ ap not (ne_eqb x.table free_table (λ w. omega (arith, below)))) h) (λ _. n)
  where
    below : x.table < d.tables
    below = ltb-true _ _ ((and-eq-true_iff (ltb x.table d.tables) _).0 f).0

-- a row is removed
pub removed-lawful : (R : Rows) (r : ℕ) → r < 512 → Backed R.cells R.tables → (d : Design) → lawful_rows d R.cells R.tables ≡ true →
    lawful_rows d (stored R r free_row).cells (stored R r free_row).tables ≡ true
removed-lawful R r l b d e =
    stored-lawful R r free_row free-sized l b d e (λ h. clash h none) (λ _. all_true 8 _ (λ c k. ap is_blank (free-blank c) ∙ blank-is)) (λ h. clash h none)
  where
    none : (tables_of (stored R r free_row)).live r ≡ false
    none = live_same R r free_row free-sized l b

-- ---- numbers stay u32 and issues u8

-- those of a row are, as its type says
pub record RowStored (x : Row) : Type 0 where
  pub number : (i : ℕ) → get_or x.numbers i 0 < 2 ^ 32
  pub issue : (i : ℕ) → get_or x.issues i 0 < 2 ^ 8

pub free-stored : RowStored free_row
free-stored = record { number = λ i. omega (arith, free-zero i); issue = λ i. omega (arith, free-zero i) }

-- what lies below n in one list and in another lies below it where one is stored in the other
sets-keep : (n : ℕ) (l : List ℕ) (b : ℕ) (vs : List ℕ) → b + length vs ≤ length l → ((i : ℕ) → get_or l i 0 < n) → ((i : ℕ) → get_or vs i 0 < n) → (i : ℕ) →
    get_or (sets l b vs) i 0 < n
sets-keep n l b vs f p q i =
    ⊎_elim (λ (h : ltb i b ≡ true). subst (λ (y : ℕ). y < n) (sym (sets_below 0 l b vs i (ltb-true i b h))) (p i))
    (λ (h : ltb i b ≡ false). ⊎_elim (λ (g : ltb i (b + length vs) ≡ true). inside (ltb-false i b h) (ltb-true i (b + length vs) g))
    (λ (g : ltb i (b + length vs) ≡ false). subst (λ (y : ℕ). y < n) (sym (sets-above 0 l b vs i (ltb-false i (b + length vs) g))) (p i)) (dec (ltb i (b + length vs))))
    (dec (ltb i b))
  where
    inside : b ≤ i → i < b + length vs → get_or (sets l b vs) i 0 < n
    inside h g =
        let e : i ≡ b + (i - b) = omega arith in
        subst (λ (y : ℕ). y < n) (sym (ap (λ (j : ℕ). get_or (sets l b vs) j 0) e ∙ sets-at 0 l b vs (i - b) f (omega arith))) (q (i - b))

module _ (R : Rows) (r : ℕ) (x : Row) (z : RowSized x) (l : r < 512) (b : Backed R.cells R.tables) where
  pub stored-stored : Stored R.cells → RowStored x → Stored (stored R r x).cells
  unfolding stored
  stored-stored u v =
      record {
        number = sets-keep (2 ^ 32) R.cells.numbers (8 * r) x.numbers (omega (arith, b.rows, z.numbers)) u.number v.number;
        issue = sets-keep (2 ^ 8) R.cells.issues (8 * r) x.issues (omega (arith, b.issued, z.issues)) u.issue v.issue;
      }

-- the buffers keep their lengths
pub stored-backed : (R : Rows) (r : ℕ) (x : Row) → Backed R.cells R.tables → Backed (stored R r x).cells (stored R r x).tables
unfolding stored
stored-backed R r x b =
    record {
      rows = omega (arith, b.rows, length-sets R.cells.numbers (8 * r) x.numbers);
      issued = omega (arith, b.issued, length-sets R.cells.issues (8 * r) x.issues);
      members = omega (arith, b.members, length-set R.tables r x.table);
    }
