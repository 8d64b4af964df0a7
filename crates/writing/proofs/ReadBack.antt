-- A lawful design whose rows have no gaps, written at the beginning of a script, is read as itself: kind by kind, item by item. Assumes nothing.
use Prim.Native.Nat.{ℕ, zero, suc, ◌+◌, ◌*◌, ◌≤◌, ◌<◌, ◌^◌}
use native.Mathlib.Numerals.{add-one}
use native.Mathlib.Omega.{arith}
use mathlib.Core.Path.{◌≡◌, refl, sym, ap, ap₂, subst, ◌∙◌}
use mathlib.Core.Bool.{true}
use mathlib.Core.List.{List, [], ◌∷◌, ◌++◌, append_assoc}
use lib.ListN.{length, get_or, length-append}
use Rattle.finite.specs.Finite.{collect}
use Rattle.finite.proofs.Collecting.{length-pieces}
use Rattle.state.specs.Cells.{Cells}
use Rattle.state.specs.declared.design.Design.{Design}
use Rattle.state.specs.Design.{table_at, constraint_at, filling_at}
use Rattle.command.specs.Bytes.{byte_at}
use Rattle.command.specs.Commands.{width_of, command_at}
use Rattle.format.specs.Reading.{Draft, draft, empty_draft, advanced}
use Rattle.format.specs.Reading.Advanced.{on}
use Rattle.format.specs.Reading.DesignRead.{accepted}
use Rattle.format.specs.Writing.{table_bytes, constraint_bytes, filling_bytes, row_bytes, row_place}
use Rattle.format.proofs.Lengths.{framed, length-table, length-constraint, length-filling, length-rows, place-first, place-more}
use Rattle.format.proofs.LawfulLaws.{Parts, RowParts}
use Rattle.format.proofs.Items.{tables_bytes, constraints_bytes, fillings_bytes, rows_bytes}
use Rattle.format.proofs.AdvancedLaws.{adds-table, adds-constraint, adds-filling, adds-row, end-completes}
use Rattle.format.proofs.ReadingLaws.{read_all, all-on, all-complete}
use Rattle.format.proofs.Reached.{Sizes}
use Rattle.writing.proofs.Drafts.{with_tables, with_constraints, with_fillings, with_all_rows, draft-start, all-tables, all-constraints, all-fillings, all-rows, next-table, next-constraint, next-filling, next-row}
use Rattle.finite.proofs.Standing.{Stands, stands-part, piece-at, stands-piece}
use Rattle.writing.proofs.Standing.{reads-table, reads-constraint, reads-filling, reads-row, reads_end, row-table, row-cells, row-issues, row-needed}

-- ---- a kind of items read one after the other

-- item k is read where it stands, at place `at k`, into the draft that has k of its kind
pub record Turn (s : List ℕ) (p : ℕ → Draft) (at : ℕ → ℕ) (k : ℕ) : Type 0 where
  pub advanced : advanced (p k) s (at k) (command_at s (at k)) ≡ on (p (k + 1))
  pub next : at k + width_of (byte_at s (at k)) ≡ at (k + 1)

turns : (s : List ℕ) (p : ℕ → Draft) (at : ℕ → ℕ) (n : ℕ) → ((k : ℕ) → k < n → Turn s p at k) → read_all s (p 0) (at 0) ≡ read_all s (p n) (at n)
turns s p at zero h = refl
turns s p at (suc n) h =
    let t = h n (omega arith) in
    turns s p at n (λ k l. h k (omega arith)) ∙ all-on s (p n) (at n) (p (n + 1)) t.advanced ∙
    ap (read_all s (p (n + 1))) t.next ∙ ap (λ (m : ℕ). read_all s (p m) (at m)) (add-one n)

-- items of one width w, from place i on
abbrev even : ℕ → ℕ → ℕ → ℕ
even i w k = i + w * k

turns-even : (s : List ℕ) (p : ℕ → Draft) (i w n : ℕ) → ((k : ℕ) → k < n → Turn s p (even i w) k) → read_all s (p 0) i ≡ read_all s (p n) (i + w * n)
turns-even s p i w n h = let e : i + w * 0 ≡ i = omega arith in ap (read_all s (p 0)) (sym e) ∙ turns s p (even i w) n h

even-next : (i w k v : ℕ) → v ≡ w → i + w * k + v ≡ i + w * (k + 1)
even-next i w k v e = omega arith

-- ---- a lawful design that stands at the beginning of a script

-- where the constraints begin, the fillings, the rows, the END
abbrev constraints_from : Design → ℕ
constraints_from d = 0 + 3 * d.tables

abbrev fillings_from : Design → ℕ
fillings_from d = 0 + 3 * d.tables + 5 * d.constraints

abbrev rows_from : Design → ℕ
rows_from d = 0 + 3 * d.tables + 5 * d.constraints + 11 * d.fillings

abbrev end_from : Design → ℕ → Cells → ℕ
end_from d k cells = row_place d cells k

-- the numbers that are written as u32 are u32 numbers, and the issues bytes
pub record Numbers (d : Design) (cells : Cells) : Type 0 where
  pub low : (i : ℕ) → (filling_at d i).low < 2 ^ 32
  pub high : (i : ℕ) → (filling_at d i).high < 2 ^ 32
  pub cell : (i : ℕ) → get_or cells.numbers i 0 < 2 ^ 32
  pub issue : (i : ℕ) → get_or cells.issues i 0 < 2 ^ 8

module _ (d : Design) (m : ℕ) (cells : Cells) (tables : List ℕ) (p : Parts d) (most : m ≤ 512) (r : RowParts d m cells tables) (z : Sizes (draft d m cells tables)) (n : Numbers d cells)
    (s : List ℕ) (h : Stands s 0 (framed d (rows_bytes m cells tables))) where
  long-tables : length (tables_bytes d) ≡ 3 * d.tables
  long-tables = length-pieces 3 (λ i. table_bytes (table_at d i)) (λ i. length-table _) d.tables

  long-constraints : length (constraints_bytes d) ≡ 5 * d.constraints
  long-constraints = length-pieces 5 (λ i. constraint_bytes (constraint_at d i)) (λ i. length-constraint _) d.constraints

  long-fillings : length (fillings_bytes d) ≡ 11 * d.fillings
  long-fillings = length-pieces 11 (λ i. filling_bytes (filling_at d i)) (λ i. length-filling _) d.fillings

  -- the first k rows
  rows-to : (k : ℕ) → rows_from d + length (collect k (λ _. true) (row_bytes cells tables)) ≡ row_place d cells k
  unfolding row_place
  rows-to k = let e = length-rows cells tables k in omega arith

  stand-tables : Stands s 0 (tables_bytes d)
  stand-tables = stands-part s _ [] (tables_bytes d) _ 0 0 h refl refl

  stand-constraints : Stands s (constraints_from d) (constraints_bytes d)
  stand-constraints = stands-part s _ (tables_bytes d) (constraints_bytes d) _ 0 _ h refl (let e = long-tables in omega arith)

  stand-fillings : Stands s (fillings_from d) (fillings_bytes d)
  stand-fillings =
      stands-part s _ (tables_bytes d ++ constraints_bytes d) (fillings_bytes d) _ 0 _ h (sym (append_assoc (tables_bytes d) (constraints_bytes d) _))
      (let e = long-tables in let f = long-constraints in let g = length-append (tables_bytes d) (constraints_bytes d) in omega arith)

  stand-rows : Stands s (rows_from d) (rows_bytes m cells tables)
  stand-rows =
      stands-part s _ (tables_bytes d ++ (constraints_bytes d ++ fillings_bytes d)) (rows_bytes m cells tables) (5 ∷ []) 0 _ h
      (sym (append_assoc (tables_bytes d) (constraints_bytes d ++ fillings_bytes d) _ ∙ ap (λ (l : List ℕ). tables_bytes d ++ l) (append_assoc (constraints_bytes d) (fillings_bytes d) _)))
      (let e = long-tables in let f = long-constraints in let g = long-fillings in
      let k = length-append (tables_bytes d) (constraints_bytes d ++ fillings_bytes d) in let o = length-append (constraints_bytes d) (fillings_bytes d) in omega arith)

  stand-end : Stands s (end_from d m cells) (5 ∷ [])
  stand-end =
      let a = tables_bytes d in let b = constraints_bytes d in let c = fillings_bytes d in let e = rows_bytes m cells tables in
      stands-part s _ (a ++ (b ++ (c ++ e))) (5 ∷ []) [] 0 _ h
      (sym (append_assoc a (b ++ (c ++ e)) (5 ∷ []) ∙ ap (λ (l : List ℕ). a ++ l) (append_assoc b (c ++ e) (5 ∷ []) ∙ ap (λ (l : List ℕ). b ++ l) (append_assoc c e (5 ∷ [])))))
      (let lt = long-tables in let lc = long-constraints in let lf = long-fillings in let lr = rows-to m in
      let k = length-append a (b ++ (c ++ e)) in let o = length-append b (c ++ e) in let q = length-append c e in omega arith)

  turn-table : (k : ℕ) → k < d.tables → Turn s (with_tables d) (even 0 3) k
  turn-table k l =
      let x = reads-table s (0 + 3 * k) (table_at d k) (stands-piece s 0 3 (λ i. table_bytes (table_at d i)) (λ i. length-table _) d.tables stand-tables k l) in
      record { advanced = ap (advanced (with_tables d k) s (0 + 3 * k)) x.command ∙ adds-table _ _ s (0 + 3 * k) (table_at d k) (next-table d p k l); next = even-next 0 3 k _ x.width }

  turn-constraint : (k : ℕ) → k < d.constraints → Turn s (with_constraints d) (even (constraints_from d) 5) k
  turn-constraint k l =
      let x = reads-constraint s (constraints_from d + 5 * k) (constraint_at d k) (stands-piece s (constraints_from d) 5 (λ i. constraint_bytes (constraint_at d i)) (λ i. length-constraint _) d.constraints stand-constraints k l) in
      record { advanced = ap (advanced (with_constraints d k) s (constraints_from d + 5 * k)) x.command ∙ adds-constraint _ _ s (constraints_from d + 5 * k) (constraint_at d k) (next-constraint d p k l); next = even-next (constraints_from d) 5 k _ x.width }

  turn-filling : (k : ℕ) → k < d.fillings → Turn s (with_fillings d) (even (fillings_from d) 11) k
  turn-filling k l =
      let x = reads-filling s (fillings_from d + 11 * k) (filling_at d k) (n.low k) (n.high k) (stands-piece s (fillings_from d) 11 (λ i. filling_bytes (filling_at d i)) (λ i. length-filling _) d.fillings stand-fillings k l) in
      record { advanced = ap (advanced (with_fillings d k) s (fillings_from d + 11 * k)) x.command ∙ adds-filling _ _ s (fillings_from d + 11 * k) (filling_at d k) (next-filling d p k l); next = even-next (fillings_from d) 11 k _ x.width }

  turn-row : (k : ℕ) → k < m → Turn s (with_all_rows d cells tables) (row_place d cells) k
  turn-row k l =
      let i = row_place d cells k in
      let y : Stands s i (row_bytes cells tables k) =
      subst (λ (j : ℕ). Stands s j (row_bytes cells tables k)) (rows-to k) (piece-at s (rows_from d) (row_bytes cells tables) m stand-rows k l _ refl) in
      let x = reads-row s i cells tables k y in
      record {
        advanced =
            ap (advanced (with_all_rows d cells tables k) s i) x.command ∙
            adds-row _ _ s i (byte_at s (i + 1)) (row-needed s i cells tables k y)
            (next-row d m cells tables r most k l s i (byte_at s (i + 1)) (row-table s i cells tables k y) (row-cells s i cells tables k y n.cell) (row-issues s i cells tables k y));
        next = place-more d cells k i _ refl x.width;
      }

  pub reading : read_all s empty_draft 0 ≡ accepted (draft d m cells tables) (row_place d cells m + 1)
  reading =
      let x = reads_end s (end_from d m cells) stand-end in
      let q = draft d m cells tables in
      ap (λ (a : Draft). read_all s a 0) (draft-start d) ∙ turns-even s (with_tables d) 0 3 d.tables turn-table ∙
      ap (λ (a : Draft). read_all s a (constraints_from d)) (all-tables d p z.table z.constraint z.filling) ∙ turns-even s (with_constraints d) (constraints_from d) 5 d.constraints turn-constraint ∙
      ap (λ (a : Draft). read_all s a (fillings_from d)) (all-constraints d p z.table z.constraint z.filling) ∙ turns-even s (with_fillings d) (fillings_from d) 11 d.fillings turn-filling ∙
      ap₂ (λ (a : Draft) (i : ℕ). read_all s a i) (all-fillings d p z.table z.constraint z.filling cells tables) first ∙ turns s (with_all_rows d cells tables) (row_place d cells) m turn-row ∙
      ap (λ (a : Draft). read_all s a (end_from d m cells)) (all-rows d m cells tables r z.cells z.issues z.tables) ∙
      all-complete s q (end_from d m cells) (ap (advanced q s (end_from d m cells)) x.command ∙ end-completes q s (end_from d m cells)) ∙ ap (λ (w : ℕ). accepted q (end_from d m cells + w)) x.width
    where
      first : rows_from d ≡ row_place d cells 0
      first = let e = place-first d cells in omega arith
