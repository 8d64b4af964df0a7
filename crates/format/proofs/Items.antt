-- What is written of a design before its END: one more item is written behind it, and as it stands in the script. Assumes nothing.
use Prim.Native.Nat.{ℕ, ◌+◌, ◌*◌, ◌≤◌, ◌<◌}
use native.Mathlib.Omega.{arith}
use mathlib.Core.Path.{◌≡◌, refl, sym, ap, ap₂, ◌∙◌}
use mathlib.Core.Bool.{true, false, not}
use mathlib.Core.List.{List, [], ◌∷◌, ◌++◌, append-nil, append_assoc}
use lib.ListN.{length, get_or, set, take, drop}
use lib.Seq.{get_or-set_same, get_or-set_other}
use lib.Dec.{eqb}
use Rattle.finite.specs.Finite.{tab, collect}
use Rattle.finite.proofs.Search.{any_same}
use Rattle.finite.proofs.Tables.{tab-at, tab-same, length-tab}
use Rattle.finite.proofs.Collecting.{collect-same, collect-suc}
use Rattle.state.specs.Cells.{Cells}
use Rattle.state.specs.declared.cell.Cell.{Cell}
use Rattle.state.specs.declared.design.Table.{Table}
use Rattle.state.specs.declared.design.Constraint.{Constraint}
use Rattle.state.specs.declared.design.Filling.{Filling}
use Rattle.state.specs.declared.design.Design.{Design}
use Rattle.state.specs.Design.{no_table, no_constraint, no_filling, table_at, constraint_at, filling_at}
use Rattle.state.specs.Meaning.{cell_at}
use Rattle.command.specs.Bytes.{byte_at, u32_at, u32_bytes}
use Rattle.command.specs.Commands.{column_at, row_cell_at, row_issue_at}
use Rattle.format.specs.Reading.{Draft, with_table, with_constraint, with_filling, with_row, needless}
use Rattle.format.specs.Writing.{table_bytes, constraint_bytes, filling_bytes, is_issued, row_bytes, design_bytes, Dense}
use Rattle.command.proofs.CommandLaws.{RowByte, plain, issued}
use Rattle.command.proofs.BytesLaws.{part-add, part-tab, u32-part, parts-collected}
use Rattle.format.proofs.CellsLaws.{put_row, put-below, put-at}
use Rattle.format.proofs.Lengths.{bytes-dense}
use Rattle.format.proofs.RowText.{any_issue, numbers_text, row_text, text-issued, text-plain, text_same, row-text, row-issued, none-plain, some-issued}
use Rattle.command.proofs.CommandLaws.{issue-read}

abbrev pub tables_bytes : Design → List ℕ
tables_bytes d = collect d.tables (λ _. true) (λ i. table_bytes (table_at d i))

abbrev pub constraints_bytes : Design → List ℕ
constraints_bytes d = collect d.constraints (λ _. true) (λ i. constraint_bytes (constraint_at d i))

abbrev pub fillings_bytes : Design → List ℕ
fillings_bytes d = collect d.fillings (λ _. true) (λ i. filling_bytes (filling_at d i))

-- n rows without gaps
abbrev pub rows_bytes : ℕ → Cells → List ℕ → List ℕ
rows_bytes n cells tables = collect n (λ _. true) (row_bytes cells tables)

-- all but the END
unfoldable pub items_bytes : Design → ℕ → Cells → List ℕ → List ℕ
items_bytes d n cells tables = tables_bytes d ++ (constraints_bytes d ++ (fillings_bytes d ++ rows_bytes n cells tables))

pub design-items : (d : Design) (n : ℕ) (cells : Cells) (tables : List ℕ) → Dense n cells tables → design_bytes d cells tables ≡ items_bytes d n cells tables ++ (5 ∷ [])
unfolding items_bytes
design-items d n cells tables h =
    bytes-dense d n cells tables h ∙ five (tables_bytes d) (constraints_bytes d) (fillings_bytes d) (rows_bytes n cells tables) (5 ∷ [])
  where
    five : (a b c e f : List ℕ) → a ++ (b ++ (c ++ (e ++ f))) ≡ (a ++ (b ++ (c ++ e))) ++ f
    five a b c e f = sym (append_assoc a (b ++ (c ++ e)) f ∙ ap (λ (l : List ℕ). a ++ l) (append_assoc b (c ++ e) f ∙ ap (λ (l : List ℕ). b ++ l) (append_assoc c e f)))

-- ---- one more item

-- f is g up to n, and x stands at n
grown : (n : ℕ) (f g : ℕ → List ℕ) (x : List ℕ) → ((i : ℕ) → i < n → g i ≡ f i) → g n ≡ x → collect (n + 1) (λ _. true) g ≡ collect n (λ _. true) f ++ x
grown n f g x h e = collect-suc (λ _. true) g n ∙ ap₂ ◌++◌ (collect-same n (λ _. true) (λ _. true) g f (λ i l. refl) (λ i l t. h i l)) e

nothing : (n : ℕ) (f : ℕ → List ℕ) → n ≡ 0 → collect n (λ _. true) f ≡ []
unfolding collect
nothing n f e = ap (λ (k : ℕ). collect k (λ _. true) f) e

-- a list behind which nothing stands
behind : (a x r : List ℕ) → r ≡ [] → (a ++ x) ++ r ≡ (a ++ r) ++ x
behind a x r e =
    ap (λ (l : List ℕ). (a ++ x) ++ l) e ∙ append-nil (a ++ x) ∙ ap (λ (l : List ℕ). l ++ x) (sym (append-nil a)) ∙ ap (λ (l : List ℕ). (a ++ l) ++ x) (sym e)

both-empty : (a b : List ℕ) → a ≡ [] → b ≡ [] → a ++ b ≡ []
both-empty a b p q = ap₂ ◌++◌ p q

module _ (d : Design) (n : ℕ) (cells : Cells) (tables : List ℕ) where
  pub more-table : (t : Table) → d.tables < length d.table → d.constraints ≡ 0 → d.fillings ≡ 0 → n ≡ 0
      → items_bytes (with_table d t) n cells tables ≡ items_bytes d n cells tables ++ table_bytes t
  unfolding items_bytes with_table
  more-table t l c f r =
      let rest = constraints_bytes d ++ (fillings_bytes d ++ rows_bytes n cells tables) in
      ap (λ (x : List ℕ). x ++ rest)
      (grown d.tables (λ i. table_bytes (table_at d i)) (λ i. table_bytes (get_or (set d.table d.tables t) i no_table)) (table_bytes t)
      (λ i h. ap table_bytes (get_or-set_other d.table d.tables i t no_table (λ (e : i ≡ d.tables). omega arith)))
      (ap table_bytes (get_or-set_same d.table d.tables t no_table l))) ∙
      behind (tables_bytes d) (table_bytes t) rest
      (both-empty (constraints_bytes d) (fillings_bytes d ++ rows_bytes n cells tables) (nothing _ _ c)
      (both-empty (fillings_bytes d) (rows_bytes n cells tables) (nothing _ _ f) (nothing _ _ r)))

  pub more-constraint : (c : Constraint) → d.constraints < length d.constraint → d.fillings ≡ 0 → n ≡ 0
      → items_bytes (with_constraint d c) n cells tables ≡ items_bytes d n cells tables ++ constraint_bytes c
  unfolding items_bytes with_constraint
  more-constraint c l f r =
      let rest = fillings_bytes d ++ rows_bytes n cells tables in
      ap (λ (x : List ℕ). tables_bytes d ++ x)
      (ap (λ (x : List ℕ). x ++ rest)
      (grown d.constraints (λ i. constraint_bytes (constraint_at d i)) (λ i. constraint_bytes (get_or (set d.constraint d.constraints c) i no_constraint)) (constraint_bytes c)
      (λ i h. ap constraint_bytes (get_or-set_other d.constraint d.constraints i c no_constraint (λ (e : i ≡ d.constraints). omega arith)))
      (ap constraint_bytes (get_or-set_same d.constraint d.constraints c no_constraint l))) ∙
      behind (constraints_bytes d) (constraint_bytes c) rest (both-empty (fillings_bytes d) (rows_bytes n cells tables) (nothing _ _ f) (nothing _ _ r))) ∙
      sym (append_assoc (tables_bytes d) (constraints_bytes d ++ rest) (constraint_bytes c))

  pub more-filling : (f : Filling) → d.fillings < length d.filling → n ≡ 0
      → items_bytes (with_filling d f) n cells tables ≡ items_bytes d n cells tables ++ filling_bytes f
  unfolding items_bytes with_filling
  more-filling f l r =
      let rest = rows_bytes n cells tables in
      ap (λ (x : List ℕ). tables_bytes d ++ (constraints_bytes d ++ x))
      (ap (λ (x : List ℕ). x ++ rest)
      (grown d.fillings (λ i. filling_bytes (filling_at d i)) (λ i. filling_bytes (get_or (set d.filling d.fillings f) i no_filling)) (filling_bytes f)
      (λ i h. ap filling_bytes (get_or-set_other d.filling d.fillings i f no_filling (λ (e : i ≡ d.fillings). omega arith)))
      (ap filling_bytes (get_or-set_same d.filling d.fillings f no_filling l))) ∙
      behind (fillings_bytes d) (filling_bytes f) rest (nothing _ _ r)) ∙
      ap (λ (x : List ℕ). tables_bytes d ++ x) (sym (append_assoc (constraints_bytes d) (fillings_bytes d ++ rest) (filling_bytes f))) ∙
      sym (append_assoc (tables_bytes d) (constraints_bytes d ++ (fillings_bytes d ++ rest)) (filling_bytes f))

-- the row whose command stands at place i
module _ (p : Draft) (s : List ℕ) (i t : ℕ) (long : 8 * p.rows + 8 ≤ length p.cells.numbers) (wide : 8 * p.rows + 8 ≤ length p.cells.issues)
    (room : p.rows < length p.tables) where
  new-cells : Cells
  new-cells = put_row p.cells p.rows (tab 8 (row_cell_at s i)) (tab 8 (row_issue_at s i))

  new-tables : List ℕ
  new-tables = set p.tables p.rows t

  old_row : (r : ℕ) → r < p.rows → row_bytes new-cells new-tables r ≡ row_bytes p.cells p.tables r
  unfolding new-cells new-tables
  old_row r h =
      row-text new-cells new-tables r ∙
      text_same _ _ _ _ _ _ (get_or-set_other p.tables p.rows r t 0 (λ (e : r ≡ p.rows). omega arith))
      (λ c l. ap (λ (v : Cell). v.number) (old c l)) (λ c l. ap (λ (v : Cell). v.issue) (old c l)) ∙ sym (row-text p.cells p.tables r)
    where
      old : (c : ℕ) → c < 8 → cell_at new-cells r c ≡ cell_at p.cells r c
      old c l = put-below p.cells p.rows (tab 8 (row_cell_at s i)) (tab 8 (row_issue_at s i)) (8 * r + c) (omega arith)

  -- its cells are those of the command
  new : (c : ℕ) → c < 8 → cell_at new-cells p.rows c ≡ record { number = row_cell_at s i c; issue = row_issue_at s i c }
  unfolding new-cells
  new c l =
      put-at p.cells p.rows (tab 8 (row_cell_at s i)) (tab 8 (row_issue_at s i)) (length-tab 8 (row_cell_at s i)) (length-tab 8 (row_issue_at s i)) long wide c l ∙
      (λ j. record { number = tab-at 0 8 (row_cell_at s i) c l j; issue = tab-at 0 8 (row_issue_at s i) c l j })

  new_row : row_bytes new-cells new-tables p.rows ≡ row_text t (row_cell_at s i) (row_issue_at s i)
  unfolding new-tables
  new_row =
      row-text new-cells new-tables p.rows ∙
      text_same _ _ _ _ _ _ (get_or-set_same p.tables p.rows t 0 room)
      (λ c l. ap (λ (v : Cell). v.number) (new c l)) (λ c l. ap (λ (v : Cell). v.issue) (new c l))

  pub new-issued : is_issued (with_row p s i t).cells p.rows ≡ any_issue (row_issue_at s i)
  unfolding new-cells with_row
  new-issued = row-issued new-cells p.rows ∙ any_same 8 _ _ (λ c l. ap (λ (v : Cell). not (eqb v.issue 0)) (new c l))

  pub more-row : items_bytes (with_row p s i t).design (with_row p s i t).rows (with_row p s i t).cells (with_row p s i t).tables
      ≡ items_bytes p.design p.rows p.cells p.tables ++ row_text t (row_cell_at s i) (row_issue_at s i)
  unfolding items_bytes with_row new-cells new-tables
  more-row =
      let d = p.design in
      let x : List ℕ = row_text t (row_cell_at s i) (row_issue_at s i) in
      let ts = tables_bytes d in let cs = constraints_bytes d in let fs = fillings_bytes d in let rs = rows_bytes p.rows p.cells p.tables in
      ap (λ (l : List ℕ). ts ++ (cs ++ (fs ++ l))) (grown p.rows (row_bytes p.cells p.tables) (row_bytes new-cells new-tables) x old_row new_row) ∙
      ap (λ (l : List ℕ). ts ++ (cs ++ l)) (sym (append_assoc fs rs x)) ∙ ap (λ (l : List ℕ). ts ++ l) (sym (append_assoc cs (fs ++ rs) x)) ∙
      sym (append_assoc ts (cs ++ (fs ++ rs)) x)

-- ---- an item is written as it stands in the script

module _ (s : List ℕ) (i : ℕ) where
  first : (b : ℕ) (l : List ℕ) → byte_at s i ≡ b → b ∷ l ≡ byte_at s (i + 0) ∷ l
  first b l e = let z : i + 0 ≡ i = omega arith in ap (λ (x : ℕ). x ∷ l) (sym e ∙ ap (byte_at s) (sym z))

  pub table-part : byte_at s i ≡ 1 → i + 3 ≤ length s → table_bytes (record { columns = byte_at s (i + 1); unique = byte_at s (i + 2) }) ≡ take 3 (drop i s)
  unfolding table_bytes tab
  table-part e h = first 1 _ e ∙ sym (part-tab s i 3 h)

  pub constraint-part : byte_at s i ≡ 2 → i + 5 ≤ length s → constraint_bytes (record { source = column_at s (i + 1); target = column_at s (i + 3) }) ≡ take 5 (drop i s)
  unfolding constraint_bytes tab
  constraint-part e h =
      let a : i + 1 + 1 ≡ i + 2 = omega arith in let b : i + 3 + 1 ≡ i + 4 = omega arith in
      first 2 _ e ∙ ap₂ (λ (x y : ℕ). byte_at s (i + 0) ∷ byte_at s (i + 1) ∷ byte_at s x ∷ byte_at s (i + 3) ∷ byte_at s y ∷ []) a b ∙ sym (part-tab s i 5 h)

  module _ (small : (j : ℕ) → byte_at s j < 256) where
    pub filling-part : byte_at s i ≡ 3 → i + 11 ≤ length s
        → filling_bytes (record { column = column_at s (i + 1); low = u32_at s (i + 3); high = u32_at s (i + 7) }) ≡ take 11 (drop i s)
    unfolding filling_bytes tab
    filling-part e h =
        let a : i + 1 + 1 ≡ i + 2 = omega arith in let b : i + 3 + 4 ≡ i + 7 = omega arith in
        let tail = u32_bytes (u32_at s (i + 3)) ++ u32_bytes (u32_at s (i + 7)) in
        let q : tail ≡ take 8 (drop (i + 3) s) = ap₂ ◌++◌ (u32-part s (i + 3) small (omega arith)) (u32-part s (i + 7) small (omega arith) ∙ ap (λ (k : ℕ). take 4 (drop k s)) (sym b)) ∙ sym (part-add s (i + 3) 4 4) in
        first 3 _ e ∙ ap₂ (λ (x : ℕ) (l : List ℕ). (byte_at s (i + 0) ∷ byte_at s (i + 1) ∷ byte_at s x ∷ []) ++ l) a q ∙
        ap (λ (l : List ℕ). l ++ take 8 (drop (i + 3) s)) (sym (part-tab s i 3 (omega arith))) ∙ sym (part-add s i 3 8)

    -- a row's command up to its cells
    front-part : (b : ℕ) → byte_at s i ≡ b → i + 34 ≤ length s → b ∷ byte_at s (i + 1) ∷ numbers_text (row_cell_at s i) ≡ take 34 (drop i s)
    unfolding row_cell_at tab
    front-part b e h =
        let q : collect 8 (λ _. true) (λ c. u32_bytes (u32_at s (i + 2 + 4 * c))) ≡ take 32 (drop (i + 2) s) =
        collect-same 8 (λ _. true) (λ _. true) _ _ (λ c l. refl) (λ c l z. u32-part s (i + 2 + 4 * c) small (omega arith)) ∙ parts-collected s (i + 2) 4 8 in
        first b _ e ∙ ap (λ (l : List ℕ). (byte_at s (i + 0) ∷ byte_at s (i + 1) ∷ []) ++ l) q ∙
        ap (λ (l : List ℕ). l ++ take 32 (drop (i + 2) s)) (sym (part-tab s i 2 (omega arith))) ∙ sym (part-add s i 2 32)

    pub row-part : (w : ℕ) → RowByte (byte_at s i) w → needless s i ≡ false → i + w ≤ length s
        → row_text (byte_at s (i + 1)) (row_cell_at s i) (row_issue_at s i) ≡ take w (drop i s)
    row-part w (plain e f) n h =
        text-plain _ _ _ (none-plain s i (λ (z : byte_at s i ≡ 7). omega arith)) ∙ front-part 4 e (omega arith) ∙ ap (λ (k : ℕ). take k (drop i s)) (sym f)
    row-part w (issued e f) n h =
        text-issued _ _ _ (some-issued s i e n) ∙
        ap₂ ◌++◌ (front-part 7 e (omega arith)) (tab-same 8 (row_issue_at s i) (λ j. byte_at s (i + 34 + j)) (λ c l. issue-read s i e c) ∙ sym (part-tab s (i + 34) 8 (omega arith))) ∙
        sym (part-add s i 34 8) ∙ ap (λ (k : ℕ). take k (drop i s)) (sym f)
