-- What has been read so far: a lawful design with its rows, written as the script's bytes up to the place reached. So an accepted design is
-- lawful, and is written as it was read. Assumes nothing.
use Prim.Native.Nat.{ℕ, zero, suc, ◌+◌, ◌*◌, ◌≤◌, ◌<◌}
use native.Mathlib.Numerals.{add-one}
use native.Mathlib.Omega.{arith}
use mathlib.Core.Path.{◌≡◌, refl, sym, ap, ap₂, subst, ◌∙◌}
use mathlib.Core.Bool.{Bool, true, false, cond}
use mathlib.Core.List.{List, [], ◌∷◌, ◌++◌}
use mathlib.Core.Logic.{◌⊎◌, inl, inr, ⊎_elim}
use borrow.Author.Tests.{ltb-true, ltb-false, eq-eqb}
use lib.Dec.{ltb}
use lib.ListN.{length, get_or, take, drop, length-set}
use lib.Seq.{length-sets, take-add, take-suc}
use Rattle.finite.specs.Finite.{tab, collect}
use Rattle.finite.proofs.Bools.{dec, both}
use Rattle.finite.proofs.Search.{all_true}
use Rattle.finite.proofs.Tables.{length-tab, tab-at, tab-past}
use Rattle.state.specs.Cells.{Cells, cells_in}
use Rattle.state.specs.declared.design.Table as State-table
use Rattle.state.specs.declared.design.Constraint as State-constraint
use Rattle.state.specs.declared.design.Filling as State-filling
use Rattle.model.specs.Cell.{blank, is_blank}
use Rattle.model.proofs.CellLaws.{blank-is}
use Rattle.state.specs.Design.{no_table, no_constraint, no_filling, table_at, constraint_at, filling_at, empty_design}
use Rattle.state.specs.Meaning.{cell_of, cell_in, free_table, database_of}
use Rattle.state.specs.Lawful.{table_fits, zero_table, zero_column, constraint_fits, zero_constraint, filling_fits, zero_filling, blank_row, lawful_design, lawful_rows}
use Rattle.state.proofs.Places.{unused-is}
use Rattle.state.proofs.RowLaws.{cell-at}
use Rattle.command.specs.Bytes.{byte_at}
use Rattle.command.specs.Commands.{width_of, command_at, row_cell_at, row_issue_at}
use Rattle.format.specs.Reading.{Draft, draft, empty_draft, Advanced, advanced, redesigned, with_table, with_constraint, with_filling, with_row, DesignRead, read_on, read_from, read_design, most_bytes}
use Rattle.format.specs.Reading.Advanced.{on, complete, refused}
use Rattle.format.specs.Reading.DesignRead.{accepted, refused_at}
use Rattle.format.specs.Writing.{table_bytes, constraint_bytes, filling_bytes, design_bytes, Dense}
use Rattle.format.proofs.RowText.{row_text}
use Rattle.format.proofs.LawfulLaws.{Parts, RowParts, no_row, whole, dense-rows, whole-rows}
use Rattle.format.proofs.Small.{Small}
use Rattle.format.proofs.Growing.{grow-table, grow-constraint, grow-filling, grow-row, no_rows}
use Rattle.format.proofs.Items.{items_bytes, design-items, more-table, more-constraint, more-filling, more-row, table-part, constraint-part, filling-part, row-part}
use Rattle.format.proofs.Seen.{Seen, seen-table, seen-constraint, seen-filling, seen-row, seen_end, seen-refused, seen}
use Rattle.format.proofs.AdvancedLaws.{AddedTable, AddedConstraint, AddedFilling, AddedRow, added-table, added-constraint, added-filling, added-row, not_on, end_on}
use Rattle.format.proofs.ReadingLaws.{Ends, advanced-complete}

-- the arrays of a draft have the sizes of their types
pub record Sizes (p : Draft) : Type 0 where
  pub table : length p.design.table ≡ 8
  pub constraint : length p.design.constraint ≡ 16
  pub filling : length p.design.filling ≡ 8
  pub cells : length p.cells.numbers ≡ 4096
  pub issues : length p.cells.issues ≡ 4096
  pub tables : length p.tables ≡ 512

-- a draft whose design is lawful, with at most 512 rows, and whose arrays have their sizes
pub record Fitting (p : Draft) : Type 0 where
  pub design : Parts p.design
  pub most : p.rows ≤ 512
  pub sizes : Sizes p

-- ... whose rows are lawful too, and which is written as the script up to place i
pub record Reached (s : List ℕ) (p : Draft) (i : ℕ) : Type 0 where
  pub fitting : Fitting p
  pub rows : RowParts p.design p.rows p.cells p.tables
  pub bytes : items_bytes p.design p.rows p.cells p.tables ≡ take i s

-- ---- one more command

module _ (p : Draft) (r : Fitting p) where
  pub fit-table : (q : Draft) (t : State-table.Table) → AddedTable p q t → Fitting (redesigned p (with_table p.design t))
  unfolding with_table
  fit-table q t h =
      let z = r.sizes in
      record {
        design = grow-table p.design t z.table r.design h.room h.constraints h.fillings h.fits;
        most = r.most;
        sizes = record { table = length-set p.design.table p.design.tables t ∙ z.table; constraint = z.constraint; filling = z.filling; cells = z.cells; issues = z.issues; tables = z.tables };
      }

  pub fit-constraint : (q : Draft) (c : State-constraint.Constraint) → AddedConstraint p q c → Fitting (redesigned p (with_constraint p.design c))
  unfolding with_constraint
  fit-constraint q c h =
      let z = r.sizes in
      record {
        design = grow-constraint p.design c z.constraint r.design h.room h.fillings h.fits;
        most = r.most;
        sizes = record { table = z.table; constraint = length-set p.design.constraint p.design.constraints c ∙ z.constraint; filling = z.filling; cells = z.cells; issues = z.issues; tables = z.tables };
      }

  pub fit-filling : (q : Draft) (f : State-filling.Filling) → AddedFilling p q f → Fitting (redesigned p (with_filling p.design f))
  unfolding with_filling
  fit-filling q f h =
      let z = r.sizes in
      record {
        design = grow-filling p.design f z.filling r.design h.room h.fits;
        most = r.most;
        sizes = record { table = z.table; constraint = z.constraint; filling = length-set p.design.filling p.design.fillings f ∙ z.filling; cells = z.cells; issues = z.issues; tables = z.tables };
      }

  pub fit_row : (s : List ℕ) (i t : ℕ) → p.rows < 512 → Fitting (with_row p s i t)
  unfolding with_row
  fit_row s i t l =
      let z = r.sizes in
      let n = p.rows in
      record {
        design = r.design;
        most = omega arith;
        sizes = record {
          table = z.table;
          constraint = z.constraint;
          filling = z.filling;
          cells = length-sets p.cells.numbers (8 * n) (tab 8 (row_cell_at s i)) ∙ z.cells;
          issues = length-sets p.cells.issues (8 * n) (tab 8 (row_issue_at s i)) ∙ z.issues;
          tables = length-set p.tables n t ∙ z.tables;
        };
      }

-- what is written goes on by the part of the script at place i
goes_on : (s xs ys x : List ℕ) (i w : ℕ) → xs ≡ take i s → ys ≡ xs ++ x → x ≡ take w (drop i s) → ys ≡ take (i + w) s
goes_on s xs ys x i w a b c = b ∙ ap₂ ◌++◌ a c ∙ sym (take-add i w s)

module _ (s : List ℕ) (p q : Draft) (i : ℕ) (r : Reached s p i) where
  reach-table : (t : State-table.Table) → table_bytes t ≡ take 3 (drop i s) → AddedTable p q t → Reached s q (i + 3)
  unfolding with_table
  reach-table t e h =
      let b : items_bytes (with_table p.design t) p.rows p.cells p.tables ≡ take (i + 3) s =
      goes_on s _ _ (table_bytes t) i 3 r.bytes (more-table p.design p.rows p.cells p.tables t (omega (arith, r.fitting.sizes.table)) h.constraints h.fillings h.rows) e in
      subst (λ (x : Draft). Reached s x (i + 3)) h.is
      (record { fitting = fit-table p r.fitting q t h; rows = no_rows p.design (with_table p.design t) p.rows p.cells p.tables h.rows r.rows; bytes = b })

  reach-constraint : (c : State-constraint.Constraint) → constraint_bytes c ≡ take 5 (drop i s) → AddedConstraint p q c → Reached s q (i + 5)
  unfolding with_constraint
  reach-constraint c e h =
      let b : items_bytes (with_constraint p.design c) p.rows p.cells p.tables ≡ take (i + 5) s =
      goes_on s _ _ (constraint_bytes c) i 5 r.bytes (more-constraint p.design p.rows p.cells p.tables c (omega (arith, r.fitting.sizes.constraint)) h.fillings h.rows) e in
      subst (λ (x : Draft). Reached s x (i + 5)) h.is
      (record { fitting = fit-constraint p r.fitting q c h; rows = no_rows p.design (with_constraint p.design c) p.rows p.cells p.tables h.rows r.rows; bytes = b })

  reach-filling : (f : State-filling.Filling) → filling_bytes f ≡ take 11 (drop i s) → AddedFilling p q f → Reached s q (i + 11)
  unfolding with_filling
  reach-filling f e h =
      let b : items_bytes (with_filling p.design f) p.rows p.cells p.tables ≡ take (i + 11) s =
      goes_on s _ _ (filling_bytes f) i 11 r.bytes (more-filling p.design p.rows p.cells p.tables f (omega (arith, r.fitting.sizes.filling)) h.rows) e in
      subst (λ (x : Draft). Reached s x (i + 11)) h.is
      (record { fitting = fit-filling p r.fitting q f h; rows = no_rows p.design (with_filling p.design f) p.rows p.cells p.tables h.rows r.rows; bytes = b })

  reach-row : (t w : ℕ) → row_text t (row_cell_at s i) (row_issue_at s i) ≡ take w (drop i s) → AddedRow p (with_row p s i t) q → Reached s q (i + w)
  unfolding with_row
  reach-row t w e h =
      let z = r.fitting.sizes in
      subst (λ (x : Draft). Reached s x (i + w)) h.is
      (record {
        fitting = fit_row p r.fitting s i t h.room;
        rows = grow-row p.rows t p.cells p.tables (tab 8 (row_cell_at s i)) (tab 8 (row_issue_at s i)) (length-tab 8 (row_cell_at s i)) (length-tab 8 (row_issue_at s i)) p.design r.rows h.fits;
        bytes = goes_on s _ _ _ i w r.bytes (more-row p s i t (omega (arith, z.cells, h.room)) (omega (arith, z.issues, h.room)) (omega (arith, z.tables, h.room))) e;
      })

module _ (s : List ℕ) (small : (j : ℕ) → byte_at s j < 256) where
  reach-on : (p q : Draft) (i : ℕ) → Reached s p i → advanced p s i (command_at s i) ≡ on q → Reached s q (i + width_of (byte_at s i))
  reach-on p q i r e = go (seen s i)
    where
      at : (w : ℕ) → width_of (byte_at s i) ≡ w → Reached s q (i + w) → Reached s q (i + width_of (byte_at s i))
      at w h x = subst (λ (k : ℕ). Reached s q (i + k)) (sym h) x

      go : Seen s i (command_at s i) (width_of (byte_at s i)) → Reached s q (i + width_of (byte_at s i))
      go (seen-table a w f c) = at 3 w (reach-table s p q i r _ (table-part s i a f) (added-table p q s i _ (ap (advanced p s i) (sym c) ∙ e)))
      go (seen-constraint a w f c) = at 5 w (reach-constraint s p q i r _ (constraint-part s i a f) (added-constraint p q s i _ (ap (advanced p s i) (sym c) ∙ e)))
      go (seen-filling a w f c) = at 11 w (reach-filling s p q i r _ (filling-part s i small a f) (added-filling p q s i _ (ap (advanced p s i) (sym c) ∙ e)))
      go (seen-row a f c) = let h = added-row p q s i _ (ap (advanced p s i) (sym c) ∙ e) in reach-row s p q i r _ _ (row-part s i small _ a h.0 f) h.1
      go (seen_end a w f c) = absurd (end_on p s i q (ap (advanced p s i) (sym c) ∙ e))
      go (seen-refused n h k) = absurd (not_on n q (sym (h p) ∙ e))

-- ---- the start

no_number : (n i : ℕ) → ◌≡◌ {A = ℕ} (get_or (tab n (λ _. 0)) i 0) 0
no_number n i = ⊎_elim (λ (e : ltb i n ≡ true). tab-at 0 n (λ _. 0) i (ltb-true i n e)) (λ (e : ltb i n ≡ false). tab-past 0 n (λ _. 0) i (ltb-false i n e)) (dec (ltb i n))

empty-parts : Parts empty_design
unfolding empty_design zero_table zero_constraint zero_column zero_filling
empty-parts =
    record {
      tables = omega arith;
      constraints = omega arith;
      fillings = omega arith;
      table = λ i h. unused-is i 0 (table_fits (table_at empty_design i)) (zero_table (table_at empty_design i)) (omega arith) ∙ ap zero_table (tab-at no_table 8 (λ _. no_table) i h);
      constraint = λ i h. unused-is i 0 (constraint_fits empty_design i (constraint_at empty_design i)) (zero_constraint (constraint_at empty_design i)) (omega arith) ∙ ap zero_constraint (tab-at no_constraint 16 (λ _. no_constraint) i h);
      filling = λ i h. unused-is i 0 (filling_fits empty_design i (filling_at empty_design i)) (zero_filling (filling_at empty_design i)) (omega arith) ∙ ap zero_filling (tab-at no_filling 8 (λ _. no_filling) i h);
    }

-- cells that are all 0
abbrev pub no_cells : Cells
no_cells = cells_in (tab 4096 (λ _. 0)) (tab 4096 (λ _. 0))

no-cell : (x : ℕ) → cell_of (cell_in no_cells x) ≡ blank
unfolding blank
no-cell x = λ i. record { number = no_number 4096 x i; issue = no_number 4096 x i }

empty-row : (r : ℕ) → r < 512 → no_row (database_of no_cells (tab 512 (λ _. free_table))) r ≡ true
unfolding no_row blank_row database_of
empty-row r l =
    both (eq-eqb (get_or (tab 512 (λ _. free_table)) r 0) free_table (tab-at 0 512 (λ _. free_table) r l))
    (all_true 8 _ (λ c h. ap is_blank (cell-at no_cells (tab 512 (λ _. free_table)) r c h ∙ no-cell (8 * r + c)) ∙ blank-is))

pub fit-empty : (cells : Cells) (tables : List ℕ) → length cells.numbers ≡ 4096 → length cells.issues ≡ 4096 → length tables ≡ 512
    → Fitting (draft empty_design 0 cells tables)
unfolding empty_design
fit-empty cells tables a c b =
    record {
      design = empty-parts;
      most = omega arith;
      sizes = record { table = length-tab 8 (λ _. no_table); constraint = length-tab 16 (λ _. no_constraint); filling = length-tab 8 (λ _. no_filling); cells = a; issues = c; tables = b };
    }

reached-start : (s : List ℕ) → Reached s empty_draft 0
unfolding empty_draft empty_design items_bytes collect
reached-start s =
    record {
      fitting = fit-empty no_cells (tab 512 (λ _. free_table)) (length-tab 4096 (λ _. 0)) (length-tab 4096 (λ _. 0)) (length-tab 512 (λ _. free_table));
      rows = record { row = λ r h. unused-is r 0 _ _ (omega arith) ∙ empty-row r h };
      bytes = refl;
    }

-- ---- the whole

-- an accepted design: lawful, with lawful rows without gaps and arrays of their sizes, and written as the script up to place j
pub record Accepted (s : List ℕ) (p : Draft) (j : ℕ) : Type 0 where
  pub design : lawful_design p.design ≡ true
  pub rows : lawful_rows p.design p.cells p.tables ≡ true
  pub dense : Dense p.rows p.cells p.tables
  pub sizes : Sizes p
  pub bytes : design_bytes p.design p.cells p.tables ≡ take j s

-- how a reading is accepted: further on, or here
accepted-how : (go : Draft → ℕ → DesignRead) (p : Draft) (i w : ℕ) (t : Advanced) (q : Draft) (j : ℕ) → read_on go p i w t ≡ accepted q j
    → ((x : Draft) × (t ≡ on x) × (go x (i + w) ≡ accepted q j)) ⊎ ((t ≡ complete) × (p ≡ q) × (i + w ≡ j))
accepted-how go p i w (on x) q j e = inl (x, refl, e)
accepted-how go p i w complete q j e = inr (refl, cc, cc)
accepted-how go p i w (refused n) q j e = absurd (let z : ◌≡◌ {A = ℕ} 0 1 = cc in omega arith)

module _ (s : List ℕ) (small : (j : ℕ) → byte_at s j < 256) where
  ended : (p : Draft) (i : ℕ) → Reached s p i → Ends s i → Accepted s p (i + width_of (byte_at s i))
  ended p i r x =
      let b : items_bytes p.design p.rows p.cells p.tables ++ (5 ∷ []) ≡ take (i + width_of (byte_at s i)) s =
      ap₂ (λ (l : List ℕ) (k : ℕ). l ++ (k ∷ [])) r.bytes (sym x.byte) ∙ sym (take-suc s i 0 (omega arith)) ∙
      ap (λ (k : ℕ). take k s) (sym (add-one i) ∙ ap (λ (k : ℕ). i + k) (sym x.width)) in
      let dense : Dense p.rows p.cells p.tables = dense-rows p.design p.rows p.cells p.tables r.fitting.design r.rows r.fitting.most in
      record {
        design = whole p.design r.fitting.design;
        rows = whole-rows p.design p.rows p.cells p.tables r.fitting.design r.rows;
        dense = dense;
        sizes = r.fitting.sizes;
        bytes = design-items p.design p.rows p.cells p.tables dense ∙ b;
      }

  reads : (n : ℕ) (p : Draft) (i : ℕ) (q : Draft) (j : ℕ) → Reached s p i → read_from n s p i ≡ accepted q j → Accepted s q j
  unfolding read_from
  reads zero p i q j r e = absurd (let z : ◌≡◌ {A = ℕ} 0 1 = cc in omega arith)
  reads (suc n) p i q j r e =
      ⊎_elim (λ (h : (x : Draft) × (advanced p s i (command_at s i) ≡ on x) × (read_from n s x (i + width_of (byte_at s i)) ≡ accepted q j)).
      reads n h.0 (i + width_of (byte_at s i)) q j (reach-on s small p h.0 i r h.1) h.2)
      (λ (h : (advanced p s i (command_at s i) ≡ complete) × (p ≡ q) × (i + width_of (byte_at s i) ≡ j)).
      subst (λ (x : Draft). Accepted s x j) h.1 (subst (λ (k : ℕ). Accepted s p k) h.2 (ended p i r (advanced-complete s i p h.0))))
      (accepted-how (read_from n s) p i (width_of (byte_at s i)) (advanced p s i (command_at s i)) q j e)

  pub reads-lawful : (p : Draft) (i : ℕ) → read_design s ≡ accepted p i → Accepted s p i
  unfolding read_design
  reads-lawful p i e = go (ltb most_bytes (length s)) e
    where
      go : (b : Bool) → cond b (refused_at 4 0) (read_from (suc (length s)) s empty_draft 0) ≡ accepted p i → Accepted s p i
      go true h = absurd (let z : ◌≡◌ {A = ℕ} 0 1 = cc in omega arith)
      go false h = reads (suc (length s)) empty_draft 0 p i (reached-start s) h

-- ---- an accepted script

module _ (s : List ℕ) (small : Small s) (p : Draft) (i : ℕ) (e : read_design s ≡ accepted p i) where
  pub written_read : design_bytes p.design p.cells p.tables ≡ take i s
  written_read = (reads-lawful s small.at p i e).bytes

  pub accepted-lawful : (lawful_design p.design ≡ true) × (lawful_rows p.design p.cells p.tables ≡ true) × Sizes p × Dense p.rows p.cells p.tables
  accepted-lawful = let a = reads-lawful s small.at p i e in (a.design, a.rows, a.sizes, a.dense)
