-- A lawful design stays lawful when an item that passes its test is added. Assumes nothing.
use Prim.Native.Nat.{ℕ, ◌+◌, ◌≤◌, ◌<◌}
use native.Mathlib.Omega.{arith}
use mathlib.Core.Path.{◌≡◌, refl, ap, ◌∙◌}
use mathlib.Core.Bool.{Bool, true}
use mathlib.Core.List.{List}
use lib.ListN.{length, get_or, set}
use lib.Seq.{get_or-set_same, get_or-set_other}
use Rattle.model.specs.Scheme.{Scheme}
use Rattle.model.specs.Database.{Database}
use Rattle.state.specs.Cells.{Cells}
use Rattle.state.specs.declared.design.Table.{Table}
use Rattle.state.specs.declared.design.Constraint.{Constraint}
use Rattle.state.specs.declared.design.Filling.{Filling}
use Rattle.state.specs.declared.design.Design.{Design}
use Rattle.state.specs.Design.{no_table, no_constraint, no_filling, table_at, constraint_at, filling_at}
use Rattle.state.specs.Meaning.{scheme_of, database_of}
use Rattle.state.specs.Lawful.{used_or, table_fits, zero_table, constraint_fits, zero_constraint, filling_fits, zero_filling}
use Rattle.state.proofs.Places.{one_more, none-used}
use Rattle.format.specs.Reading.{with_table, with_constraint, with_filling}
use Rattle.format.proofs.CellsLaws.{put_row, put_other}
use Rattle.format.proofs.LawfulLaws.{Parts, RowParts, SameRow, row_test, no_row, constraint-fits-same, filling-fits-same, same_row, live_same, no-row-same, row-test-same}

-- ---- one more table, before any constraint and filling

module _ (d : Design) (t : Table) (long : length d.table ≡ 8) (p : Parts d) (l : d.tables < 8) where
  pub grow-table : d.constraints ≡ 0 → d.fillings ≡ 0 → table_fits t ≡ true → Parts (with_table d t)
  unfolding with_table
  grow-table c f fits =
      record {
        tables = omega arith;
        constraints = p.constraints;
        fillings = p.fillings;
        table =
            one_more 8 d.tables (λ i. table_fits (table_at d i)) (λ i. table_fits (get_or (set d.table d.tables t) i no_table))
            (λ i. zero_table (table_at d i)) (λ i. zero_table (get_or (set d.table d.tables t) i no_table)) p.table
            (λ i h. ap table_fits (get_or-set_other d.table d.tables i t no_table (λ (e : i ≡ d.tables). omega arith)))
            (ap table_fits (get_or-set_same d.table d.tables t no_table (omega arith)) ∙ fits)
            (λ i h k. ap zero_table (get_or-set_other d.table d.tables i t no_table (λ (e : i ≡ d.tables). omega arith)));
        constraint = λ i h. none-used i d.constraints (constraint_fits d i (constraint_at d i)) (constraint_fits (with_table d t) i (constraint_at d i)) (zero_constraint (constraint_at d i)) c (p.constraint i h);
        filling = λ i h. none-used i d.fillings (filling_fits d i (filling_at d i)) (filling_fits (with_table d t) i (filling_at d i)) (zero_filling (filling_at d i)) f (p.filling i h);
      }

-- ---- one more constraint, before any filling

module _ (d : Design) (c : Constraint) (long : length d.constraint ≡ 16) (p : Parts d) (l : d.constraints < 16) where
  other : (i : ℕ) → (i ≡ d.constraints → ⊥) → constraint_at (with_constraint d c) i ≡ constraint_at d i
  unfolding with_constraint
  other i h = get_or-set_other d.constraint d.constraints i c no_constraint h

  here : constraint_at (with_constraint d c) d.constraints ≡ c
  unfolding with_constraint
  here = get_or-set_same d.constraint d.constraints c no_constraint (omega arith)

  tested : (i : ℕ) (x : Constraint) → i ≤ d.constraints → constraint_fits (with_constraint d c) i x ≡ constraint_fits d i x
  unfolding with_constraint
  tested i x h = constraint-fits-same (with_constraint d c) d refl (λ t. refl) i x (λ j k. other j (λ (e : j ≡ d.constraints). omega arith))

  pub grow-constraint : d.fillings ≡ 0 → constraint_fits d d.constraints c ≡ true → Parts (with_constraint d c)
  unfolding with_constraint
  grow-constraint f fits =
      record {
        tables = p.tables;
        constraints = omega arith;
        fillings = p.fillings;
        table = p.table;
        constraint =
            one_more 16 d.constraints (λ i. constraint_fits d i (constraint_at d i)) (λ i. constraint_fits (with_constraint d c) i (constraint_at (with_constraint d c) i))
            (λ i. zero_constraint (constraint_at d i)) (λ i. zero_constraint (constraint_at (with_constraint d c) i)) p.constraint
            (λ i h. tested i (constraint_at (with_constraint d c) i) (omega arith) ∙ ap (constraint_fits d i) (other i (λ (e : i ≡ d.constraints). omega arith)))
            (tested d.constraints (constraint_at (with_constraint d c) d.constraints) (omega arith) ∙ ap (constraint_fits d d.constraints) here ∙ fits)
            (λ i h k. ap zero_constraint (other i (λ (e : i ≡ d.constraints). omega arith)));
        filling = λ i h. none-used i d.fillings (filling_fits d i (filling_at d i)) (filling_fits (with_constraint d c) i (filling_at d i)) (zero_filling (filling_at d i)) f (p.filling i h);
      }

-- ---- one more filling

module _ (d : Design) (f : Filling) (long : length d.filling ≡ 8) (p : Parts d) (l : d.fillings < 8) where
  other-filling : (i : ℕ) → (i ≡ d.fillings → ⊥) → filling_at (with_filling d f) i ≡ filling_at d i
  unfolding with_filling
  other-filling i h = get_or-set_other d.filling d.fillings i f no_filling h

  here-filling : filling_at (with_filling d f) d.fillings ≡ f
  unfolding with_filling
  here-filling = get_or-set_same d.filling d.fillings f no_filling (omega arith)

  tested-filling : (i : ℕ) (x : Filling) → i ≤ d.fillings → filling_fits (with_filling d f) i x ≡ filling_fits d i x
  unfolding with_filling
  tested-filling i x h = filling-fits-same (with_filling d f) d refl (λ t. refl) i x (λ j k. other-filling j (λ (e : j ≡ d.fillings). omega arith))

  pub grow-filling : filling_fits d d.fillings f ≡ true → Parts (with_filling d f)
  unfolding with_filling
  grow-filling fits =
      record {
        tables = p.tables;
        constraints = p.constraints;
        fillings = omega arith;
        table = p.table;
        constraint = λ i h. ap (λ (b : Bool). used_or i d.constraints b (zero_constraint (constraint_at d i))) (constraint-fits-same (with_filling d f) d refl (λ t. refl) i (constraint_at d i) (λ j k. refl)) ∙ p.constraint i h;
        filling =
            one_more 8 d.fillings (λ i. filling_fits d i (filling_at d i)) (λ i. filling_fits (with_filling d f) i (filling_at (with_filling d f) i))
            (λ i. zero_filling (filling_at d i)) (λ i. zero_filling (filling_at (with_filling d f) i)) p.filling
            (λ i h. tested-filling i (filling_at (with_filling d f) i) (omega arith) ∙ ap (filling_fits d i) (other-filling i (λ (e : i ≡ d.fillings). omega arith)))
            (tested-filling d.fillings (filling_at (with_filling d f) d.fillings) (omega arith) ∙ ap (filling_fits d d.fillings) here-filling ∙ fits)
            (λ i h k. ap zero_filling (other-filling i (λ (e : i ≡ d.fillings). omega arith)));
      }

-- ---- one more row

-- row n is stored: the others are as they were
module _ (n t : ℕ) (cells : Cells) (tables xs ys : List ℕ) (a : length xs ≡ 8) (b : length ys ≡ 8) where
  other-rows : (r : ℕ) → (r ≡ n → ⊥) → SameRow (database_of (put_row cells n xs ys) (set tables n t)) (database_of cells tables) r
  other-rows r ne =
      same_row (put_row cells n xs ys) cells (set tables n t) tables r (get_or-set_other tables n r t 0 ne) (put_other cells n xs ys a b r ne)

  pub grow-row : (d : Design) → RowParts d n cells tables → row_test (scheme_of d) (database_of (put_row cells n xs ys) (set tables n t)) n ≡ true
      → RowParts d (n + 1) (put_row cells n xs ys) (set tables n t)
  grow-row d p fits =
      let S : Scheme = scheme_of d in
      let D : Database = database_of cells tables in
      let E : Database = database_of (put_row cells n xs ys) (set tables n t) in
      record {
        row =
            one_more 512 n (row_test S D) (row_test S E) (no_row D) (no_row E) p.row
            (λ r h. row-test-same S E D r (other-rows r (λ (e : r ≡ n). omega arith)) (λ q k. other-rows q (λ (e : q ≡ n). omega arith))
            (λ q k. live_same (put_row cells n xs ys) cells (set tables n t) tables q (get_or-set_other tables n q t 0 (λ (e : q ≡ n). omega arith))))
            fits
            (λ r h k. no-row-same S E D r (other-rows r (λ (e : r ≡ n). omega arith)));
      }

-- no row has been read: the tables, constraints and fillings do not matter
pub no_rows : (d e : Design) (n : ℕ) (cells : Cells) (tables : List ℕ) → n ≡ 0 → RowParts d n cells tables → RowParts e n cells tables
no_rows d e n cells tables z p =
    record {
      row = λ r h.
          let D : Database = database_of cells tables in
          none-used r n (row_test (scheme_of d) D r) (row_test (scheme_of e) D r) (no_row D r) z (p.row r h);
    }
