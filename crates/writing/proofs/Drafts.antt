-- The drafts that the reader of a lawful design goes through: the first k items of a kind behind all items of the kinds before. Each item passes
-- its test on the draft that it meets. Assumes nothing.
use Prim.Native.Nat.{ℕ, ◌+◌, ◌*◌, ◌≤◌, ◌<◌}
use native.Mathlib.Omega.{arith}
use mathlib.Core.Path.{◌≡◌, refl, sym, ap, ap₂, subst, ◌∙◌}
use mathlib.Core.Bool.{true}
use mathlib.Core.List.{List}
use lib.ListN.{length, get_or, set}
use lib.Seq.{sets}
use Rattle.finite.specs.Finite.{tab}
use Rattle.finite.proofs.Tables.{tab-same}
use Rattle.model.specs.Database.{Database}
use Rattle.state.specs.Cells.{Cells, cells_in}
use Rattle.state.specs.declared.cell.Cell.{Cell}
use Rattle.state.specs.declared.design.Table.{Table}
use Rattle.state.specs.declared.design.Constraint.{Constraint}
use Rattle.state.specs.declared.design.Filling.{Filling}
use Rattle.state.specs.declared.design.Design.{Design}
use Rattle.state.specs.Design.{no_table, no_constraint, no_filling, table_at, constraint_at, filling_at, empty_design}
use Rattle.state.specs.Meaning.{free_table, scheme_of, database_of}
use Rattle.state.specs.Lawful.{table_fits, zero_table, constraint_fits, zero_constraint, filling_fits, zero_filling}
use Rattle.state.proofs.Places.{used-is}
use Rattle.command.specs.Commands.{row_cell_at, row_issue_at}
use Rattle.format.specs.Reading.{Draft, draft, empty_draft, with_table, with_constraint, with_filling, with_row}
use Rattle.format.proofs.CellsLaws.{same-cell, same-cells}
use Rattle.format.proofs.LawfulLaws.{Parts, RowParts, SameRow, row_test, no_row, constraint-fits-same, filling-fits-same, same_row, live_same, row-test-same}
use Rattle.writing.proofs.Cut.{cut_list, cut_at, cut-none, cut-more, cut-whole, cut-eight, unused-table, unused-constraint, unused-filling, unused-member, unused-cell}
use Rattle.format.proofs.AdvancedLaws.{AddedTable, AddedConstraint, AddedFilling, AddedRow}
use Rattle.format.proofs.Reached.{no_cells}

abbrev no_members : List ℕ
no_members = tab 512 (λ _. free_table)

-- the first k tables; all tables and the first k constraints; all constraints too and the first k fillings; all of these and the first k rows
unfoldable pub with_tables : Design → ℕ → Draft
with_tables d k =
    record {
      design = record {
        tables = k;
        table = cut_list no_table 8 k (table_at d);
        constraints = 0;
        constraint = tab 16 (λ _. no_constraint);
        fillings = 0;
        filling = tab 8 (λ _. no_filling);
      };
      rows = 0;
      cells = no_cells;
      tables = no_members;
    }

unfoldable pub with_constraints : Design → ℕ → Draft
with_constraints d k =
    record {
      design = record {
        tables = d.tables;
        table = d.table;
        constraints = k;
        constraint = cut_list no_constraint 16 k (constraint_at d);
        fillings = 0;
        filling = tab 8 (λ _. no_filling);
      };
      rows = 0;
      cells = no_cells;
      tables = no_members;
    }

unfoldable pub with_fillings : Design → ℕ → Draft
with_fillings d k =
    record {
      design = record {
        tables = d.tables;
        table = d.table;
        constraints = d.constraints;
        constraint = d.constraint;
        fillings = k;
        filling = cut_list no_filling 8 k (filling_at d);
      };
      rows = 0;
      cells = no_cells;
      tables = no_members;
    }

-- a list of cells' numbers or issues, and the cells, cut after k rows
abbrev cut_rows : List ℕ → ℕ → List ℕ
cut_rows xs k = cut_list 0 4096 (8 * k) (λ i. get_or xs i 0)

abbrev cut_cells : Cells → ℕ → Cells
cut_cells cells k = cells_in (cut_rows cells.numbers k) (cut_rows cells.issues k)

unfoldable pub with_all_rows : Design → Cells → List ℕ → ℕ → Draft
with_all_rows d cells tables k =
    record {
      design = d;
      rows = k;
      cells = cut_cells cells k;
      tables = cut_list free_table 512 k (λ i. get_or tables i 0);
    }

-- ---- from one kind to the next

pub draft-start : (d : Design) → empty_draft ≡ with_tables d 0
unfolding empty_draft empty_design with_tables
draft-start d =
    ap (λ (l : List Table). let x : Draft = record { design = record { tables = 0; table = l; constraints = 0; constraint = tab 16 (λ _. no_constraint); fillings = 0; filling = tab 8 (λ _. no_filling) }; rows = 0; cells = no_cells; tables = no_members } in x)
    (cut-none no_table no_table 8 (table_at d))

module _ (d : Design) (p : Parts d) (z : length d.table ≡ 8) (y : length d.constraint ≡ 16) (x : length d.filling ≡ 8) where
  pub all-tables : with_tables d d.tables ≡ with_constraints d 0
  unfolding with_tables with_constraints
  all-tables =
      ap₂ (λ (l : List Table) (m : List Constraint). let r : Draft = record { design = record { tables = d.tables; table = l; constraints = 0; constraint = m; fillings = 0; filling = tab 8 (λ _. no_filling) }; rows = 0; cells = no_cells; tables = no_members } in r)
      (cut-whole no_table no_table 8 (table_at d) d.tables d.table z (λ i l. refl) (unused-table d p)) (cut-none no_constraint no_constraint 16 (constraint_at d))

  pub all-constraints : with_constraints d d.constraints ≡ with_fillings d 0
  unfolding with_constraints with_fillings
  all-constraints =
      ap₂ (λ (l : List Constraint) (m : List Filling). let r : Draft = record { design = record { tables = d.tables; table = d.table; constraints = d.constraints; constraint = l; fillings = 0; filling = m }; rows = 0; cells = no_cells; tables = no_members } in r)
      (cut-whole no_constraint no_constraint 16 (constraint_at d) d.constraints d.constraint y (λ i l. refl) (unused-constraint d p)) (cut-none no_filling no_filling 8 (filling_at d))

  pub all-fillings : (cells : Cells) (tables : List ℕ) → with_fillings d d.fillings ≡ with_all_rows d cells tables 0
  unfolding with_fillings with_all_rows
  all-fillings cells tables =
      ap (λ (l : List Filling). let r : Draft = record { design = record { tables = d.tables; table = d.table; constraints = d.constraints; constraint = d.constraint; fillings = d.fillings; filling = l }; rows = 0; cells = no_cells; tables = no_members } in r)
      (cut-whole no_filling no_filling 8 (filling_at d) d.fillings d.filling x (λ i l. refl) (unused-filling d p)) ∙
      ap₂ (λ (l : Cells) (m : List ℕ). let r : Draft = record { design = d; rows = 0; cells = l; tables = m } in r)
      (ap₂ cells_in (cut-none 0 0 4096 (λ i. get_or cells.numbers i 0)) (cut-none 0 0 4096 (λ i. get_or cells.issues i 0))) (cut-none free_table 0 512 (λ i. get_or tables i 0))

pub all-rows : (d : Design) (n : ℕ) (cells : Cells) (tables : List ℕ) → RowParts d n cells tables → length cells.numbers ≡ 4096 → length cells.issues ≡ 4096
    → length tables ≡ 512 → with_all_rows d cells tables n ≡ draft d n cells tables
unfolding with_all_rows
all-rows d n cells tables p a c b =
    ap₂ (λ (l : Cells) (m : List ℕ). draft d n l m)
    (same-cells (cut_cells cells n) cells
    (cut-whole 0 0 4096 (λ i. get_or cells.numbers i 0) (8 * n) cells.numbers a (λ i l. refl) (λ i l h. ap (λ (v : Cell). v.number) (unused-cell d n cells tables p i l h)))
    (cut-whole 0 0 4096 (λ i. get_or cells.issues i 0) (8 * n) cells.issues c (λ i l. refl) (λ i l h. ap (λ (v : Cell). v.issue) (unused-cell d n cells tables p i l h))))
    (cut-whole free_table 0 512 (λ i. get_or tables i 0) n tables b (λ i l. refl) (unused-member d n cells tables p))

-- ---- each item is read

module _ (d : Design) (p : Parts d) (k : ℕ) where
  pub next-table : k < d.tables → AddedTable (with_tables d k) (with_tables d (k + 1)) (table_at d k)
  unfolding with_tables with_table
  next-table l =
      let h = p.tables in
      record {
        constraints = refl;
        fillings = refl;
        rows = refl;
        room = omega arith;
        fits = sym (used-is k d.tables (table_fits (table_at d k)) (zero_table (table_at d k)) l) ∙ p.table k (omega arith);
        is =
            ap (λ (m : List Table). let x : Draft = record { design = record { tables = k + 1; table = m; constraints = 0; constraint = tab 16 (λ _. no_constraint); fillings = 0; filling = tab 8 (λ _. no_filling) }; rows = 0; cells = no_cells; tables = no_members } in x)
            (cut-more no_table no_table 8 (table_at d) k (omega arith));
      }

  pub next-constraint : k < d.constraints → AddedConstraint (with_constraints d k) (with_constraints d (k + 1)) (constraint_at d k)
  unfolding with_constraints with_constraint
  next-constraint l =
      let h = p.constraints in
      record {
        fillings = refl;
        rows = refl;
        room = omega arith;
        fits =
            constraint-fits-same (with_constraints d k).design d refl (λ t. refl) k (constraint_at d k) (λ i g. cut_at no_constraint no_constraint 16 (constraint_at d) k i (omega arith) g) ∙
            sym (used-is k d.constraints (constraint_fits d k (constraint_at d k)) (zero_constraint (constraint_at d k)) l) ∙ p.constraint k (omega arith);
        is =
            ap (λ (m : List Constraint). let x : Draft = record { design = record { tables = d.tables; table = d.table; constraints = k + 1; constraint = m; fillings = 0; filling = tab 8 (λ _. no_filling) }; rows = 0; cells = no_cells; tables = no_members } in x)
            (cut-more no_constraint no_constraint 16 (constraint_at d) k (omega arith));
      }

  pub next-filling : k < d.fillings → AddedFilling (with_fillings d k) (with_fillings d (k + 1)) (filling_at d k)
  unfolding with_fillings with_filling
  next-filling l =
      let h = p.fillings in
      record {
        rows = refl;
        room = omega arith;
        fits =
            filling-fits-same (with_fillings d k).design d refl (λ t. refl) k (filling_at d k) (λ i g. cut_at no_filling no_filling 8 (filling_at d) k i (omega arith) g) ∙
            sym (used-is k d.fillings (filling_fits d k (filling_at d k)) (zero_filling (filling_at d k)) l) ∙ p.filling k (omega arith);
        is =
            ap (λ (m : List Filling). let x : Draft = record { design = record { tables = d.tables; table = d.table; constraints = d.constraints; constraint = d.constraint; fillings = k + 1; filling = m }; rows = 0; cells = no_cells; tables = no_members } in x)
            (cut-more no_filling no_filling 8 (filling_at d) k (omega arith));
      }

-- the ROW at place i of a script has row k's table and cells
module _ (d : Design) (n : ℕ) (cells : Cells) (tables : List ℕ) (rows : RowParts d n cells tables) (most : n ≤ 512) (k : ℕ) (l : k < n) (s : List ℕ) (i t : ℕ)
    (member : t ≡ get_or tables k 0) (number : (c : ℕ) → c < 8 → row_cell_at s i c ≡ get_or cells.numbers (8 * k + c) 0)
    (issue : (c : ℕ) → c < 8 → row_issue_at s i c ≡ get_or cells.issues (8 * k + c) 0) where
  -- eight of them put in
  eight : (xs : List ℕ) (f : ℕ → ℕ) → ((c : ℕ) → c < 8 → f c ≡ get_or xs (8 * k + c) 0) → sets (cut_rows xs k) (8 * k) (tab 8 f) ≡ cut_rows xs (k + 1)
  eight xs f h = ap (sets (cut_rows xs k) (8 * k)) (tab-same 8 f (λ c. get_or xs (8 * k + c) 0) h) ∙ cut-eight 4096 (λ j. get_or xs j 0) k (omega arith)

  put : with_row (with_all_rows d cells tables k) s i t ≡ with_all_rows d cells tables (k + 1)
  unfolding with_row with_all_rows
  put =
      ap₂ (λ (m : Cells) (o : List ℕ). draft d (k + 1) m o)
      (ap₂ cells_in (eight cells.numbers (row_cell_at s i) number) (eight cells.issues (row_issue_at s i) issue))
      (ap (set (cut_list free_table 512 k (λ j. get_or tables j 0)) k) member ∙ cut-more free_table 0 512 (λ j. get_or tables j 0) k (omega arith))

  same-table : (r : ℕ) → r ≤ k → get_or (cut_list free_table 512 (k + 1) (λ j. get_or tables j 0)) r 0 ≡ get_or tables r 0
  same-table r h = cut_at free_table 0 512 (λ j. get_or tables j 0) (k + 1) r (omega arith) (omega arith)

  same : (r : ℕ) → r ≤ k → SameRow (database_of (cut_cells cells (k + 1)) (cut_list free_table 512 (k + 1) (λ j. get_or tables j 0))) (database_of cells tables) r
  same r h =
      same_row _ cells _ tables r (same-table r h)
      (λ c g. same-cell (cut_cells cells (k + 1)) cells (8 * r + c) (8 * r + c)
      (cut_at 0 0 4096 (λ j. get_or cells.numbers j 0) (8 * (k + 1)) (8 * r + c) (omega arith) (omega arith))
      (cut_at 0 0 4096 (λ j. get_or cells.issues j 0) (8 * (k + 1)) (8 * r + c) (omega arith) (omega arith)))

  tested : row_test (scheme_of (with_all_rows d cells tables (k + 1)).design) (database_of (with_all_rows d cells tables (k + 1)).cells (with_all_rows d cells tables (k + 1)).tables) k ≡ true
  unfolding with_all_rows
  tested =
      let D : Database = database_of cells tables in
      row-test-same (scheme_of d) _ D k (same k (omega arith)) (λ q h. same q (omega arith)) (λ q h. live_same _ cells _ tables q (same-table q (omega arith))) ∙
      sym (used-is k n (row_test (scheme_of d) D k) (no_row D k) l) ∙ rows.row k (omega arith)

  pub next-row : AddedRow (with_all_rows d cells tables k) (with_row (with_all_rows d cells tables k) s i t) (with_all_rows d cells tables (k + 1))
  unfolding with_all_rows
  next-row =
      record {
        room = omega arith;
        fits = subst (λ (x : Draft). row_test (scheme_of x.design) (database_of x.cells x.tables) k ≡ true) (sym put) tested;
        is = put;
      }
