-- What stands at a place of a script, and the command that is read there. Assumes nothing.
use Prim.Native.Nat.{ℕ, ◌+◌, ◌*◌, ◌≤◌, ◌<◌}
use native.Mathlib.Omega.{arith}
use mathlib.Core.Path.{◌≡◌, refl, sym, ap, ap₂, subst, ◌∙◌}
use mathlib.Core.Bool.{true, false, not}
use mathlib.Core.List.{List, [], ◌∷◌, ◌++◌, append-nil}
use mathlib.Core.Logic.{⊎_elim}
use borrow.Author.Tests.{eqb-true, not-false}
use lib.Dec.{eqb}
use lib.ListN.{length, get_or}
use Rattle.finite.specs.Finite.{tab, collect}
use Rattle.finite.proofs.Bools.{dec}
use Rattle.finite.proofs.Search.{any_same, any_none}
use Rattle.finite.proofs.Tables.{tab-at, length-tab}
use Rattle.finite.proofs.Standing.{Stands, stands-part, stands-long, stands_at, stands_here, stands-piece}
use Rattle.state.specs.Cells.{Cells}
use Rattle.state.specs.declared.design.Table as State-table
use Rattle.state.specs.declared.design.Constraint as State-constraint
use Rattle.state.specs.declared.design.Filling as State-filling
use Rattle.state.specs.Meaning.{cell_at}
use Rattle.command.specs.declared.command.Command.{Command}
use Rattle.command.specs.declared.command.Command.TheVariants.{Table, Constraint, Filling, Row, End}
use Rattle.command.specs.Bytes.{byte_at, u32_at, u32_bytes}
use Rattle.command.specs.Commands.{design_width, width_of, column_at, design_command_at, command_at, row_cell_at, row_issue_at}
use Rattle.format.specs.Reading.{needless}
use Rattle.format.specs.Writing.{table_bytes, constraint_bytes, filling_bytes, is_issued, row_bytes}
use Rattle.command.proofs.CommandLaws.{plain, issued, at-whole, width-design, operands-design, command-table, command-constraint, command-filling, command-row, command-end}
use Rattle.command.proofs.BytesLaws.{u32-written}
use Rattle.format.proofs.RowText.{any_issue, numbers_text, row_width, text-issued, text-plain, row-text, row-issued, length-numbers, needed-plain, needed-issued}
use Rattle.command.proofs.CommandLaws.{issue-plain, issue-read}
use Rattle.format.proofs.Lengths.{length-u32, length-filling, length-row}

-- ---- the commands that are read

-- the command whose byte and operands stand at place i, with its width
pub record Reads (s : List ℕ) (i w : ℕ) (c : Command) : Type 0 where
  pub command : command_at s i ≡ c
  pub width : width_of (byte_at s i) ≡ w

-- a command of the design, whose byte is b
reads_whole : (s : List ℕ) (i b w : ℕ) (c : Command) → byte_at s i ≡ b → b < 16 → design_width b ≡ w → 0 < w → i + w ≤ length s
    → c ≡ design_command_at (byte_at s i) s i → Reads s i w c
reads_whole s i b w c e d f l h o =
    let few : byte_at s i < 16 = omega arith in
    let x : width_of (byte_at s i) ≡ w = width-design (byte_at s i) few ∙ ap design_width e ∙ f in
    record { command = sym (o ∙ operands-design (byte_at s i) s i few ∙ at-whole s i (omega arith) (λ (z : width_of (byte_at s i) ≡ 0). omega arith) (omega arith)); width = x }

pub u32-stands : (s : List ℕ) (i v : ℕ) → v < 4294967296 → Stands s i (u32_bytes v) → u32_at s i ≡ v
unfolding u32_bytes
u32-stands s i v l h = u32-written s i v l (stands_here s _ i h (omega arith)) (stands_at s _ i h 1 (omega arith)) (stands_at s _ i h 2 (omega arith)) (stands_at s _ i h 3 (omega arith))

module _ (s : List ℕ) (i : ℕ) where
  pub reads-table : (t : State-table.Table) → Stands s i (table_bytes t) → Reads s i 3 (Table t)
  unfolding table_bytes design_width
  reads-table t h =
      let b : byte_at s i ≡ 1 = stands_here s _ i h (omega arith) in
      reads_whole s i 1 3 (Table t) b (omega arith) refl (omega arith) (stands-long s _ i h)
      (command-table (byte_at s i) s i t
      (ap₂ (λ (x y : ℕ). let r : State-table.Table = record { columns = x; unique = y } in r) (sym (stands_at s _ i h 1 (omega arith))) (sym (stands_at s _ i h 2 (omega arith)))) b)

  pub reads-constraint : (c : State-constraint.Constraint) → Stands s i (constraint_bytes c) → Reads s i 5 (Constraint c)
  unfolding constraint_bytes design_width
  reads-constraint c h =
      let b : byte_at s i ≡ 2 = stands_here s _ i h (omega arith) in
      let two : i + 1 + 1 ≡ i + 2 = omega arith in let four : i + 3 + 1 ≡ i + 4 = omega arith in
      let p : byte_at s (i + 1 + 1) ≡ c.source.place = ap (byte_at s) two ∙ stands_at s _ i h 2 (omega arith) in
      let q : byte_at s (i + 3 + 1) ≡ c.target.place = ap (byte_at s) four ∙ stands_at s _ i h 4 (omega arith) in
      reads_whole s i 2 5 (Constraint c) b (omega arith) refl (omega arith) (stands-long s _ i h)
      (command-constraint (byte_at s i) s i c
      (ap₂ (λ (x y : ℕ). let r : State-constraint.Constraint = record { source = record { table = x; place = y }; target = c.target } in r) (sym (stands_at s _ i h 1 (omega arith))) (sym p) ∙
      ap₂ (λ (x y : ℕ). let r : State-constraint.Constraint = record { source = column_at s (i + 1); target = record { table = x; place = y } } in r) (sym (stands_at s _ i h 3 (omega arith))) (sym q)) b)

  pub reads-filling : (f : State-filling.Filling) → f.low < 4294967296 → f.high < 4294967296 → Stands s i (filling_bytes f) → Reads s i 11 (Filling f)
  unfolding filling_bytes design_width
  reads-filling f low high h =
      let head : List ℕ = 3 ∷ f.column.table ∷ f.column.place ∷ [] in
      let b : byte_at s i ≡ 3 = stands_here s _ i h (omega arith) in
      let two : i + 1 + 1 ≡ i + 2 = omega arith in
      let p : byte_at s (i + 1 + 1) ≡ f.column.place = ap (byte_at s) two ∙ stands_at s _ i h 2 (omega arith) in
      let x : u32_at s (i + 3) ≡ f.low = u32-stands s (i + 3) f.low low (stands-part s _ head (u32_bytes f.low) (u32_bytes f.high) i (i + 3) h refl refl) in
      let y : u32_at s (i + 7) ≡ f.high =
      u32-stands s (i + 7) f.high high
      (stands-part s _ (head ++ u32_bytes f.low) (u32_bytes f.high) [] i (i + 7) h (ap (λ (l : List ℕ). head ++ (u32_bytes f.low ++ l)) (sym (append-nil (u32_bytes f.high)))) (let e = length-u32 f.low in omega arith)) in
      reads_whole s i 3 11 (Filling f) b (omega arith) refl (omega arith) (let e = length-filling f in let g = stands-long s _ i h in omega arith)
      (command-filling (byte_at s i) s i f
      (ap₂ (λ (u v : ℕ). let r : State-filling.Filling = record { column = record { table = u; place = v }; low = f.low; high = f.high } in r) (sym (stands_at s _ i h 1 (omega arith))) (sym p) ∙
      ap₂ (λ (u v : ℕ). let r : State-filling.Filling = record { column = column_at s (i + 1); low = u; high = v } in r) (sym x) (sym y)) b)

  pub reads_end : Stands s i (5 ∷ []) → Reads s i 1 End
  unfolding design_width
  reads_end h =
      let b : byte_at s i ≡ 5 = stands_here s _ i h (omega arith) in
      reads_whole s i 5 1 End b (omega arith) refl (omega arith) (stands-long s _ i h) (command-end (byte_at s i) s i b)

-- a ROW: its table, its cells' numbers and issues
module _ (s : List ℕ) (i : ℕ) (cells : Cells) (tables : List ℕ) (r : ℕ) (h : Stands s i (row_bytes cells tables r)) where
  abbrev table : ℕ
  table = get_or tables r 0

  abbrev number : ℕ → ℕ
  number c = (cell_at cells r c).number

  abbrev issue : ℕ → ℕ
  issue c = (cell_at cells r c).issue

  whole_plain : any_issue issue ≡ false → Stands s i (4 ∷ table ∷ numbers_text number)
  whole_plain e = subst (Stands s i) (row-text cells tables r ∙ text-plain table number issue e) h

  whole-issued : any_issue issue ≡ true → Stands s i (7 ∷ table ∷ (numbers_text number ++ tab 8 issue))
  whole-issued e = subst (Stands s i) (row-text cells tables r ∙ text-issued table number issue e) h

  -- its byte, its table and its numbers
  front : (b : ℕ) × Stands s i (b ∷ table ∷ numbers_text number)
  front =
      ⊎_elim (λ (e : any_issue issue ≡ true). (7, stands-part s _ [] (7 ∷ table ∷ numbers_text number) (tab 8 issue) i i (whole-issued e) refl (omega arith)))
      (λ (e : any_issue issue ≡ false). (4, whole_plain e)) (dec (any_issue issue))

  byte-plain : any_issue issue ≡ false → byte_at s i ≡ 4
  byte-plain e = stands_here s _ i (whole_plain e) (omega arith)

  byte-issued : any_issue issue ≡ true → byte_at s i ≡ 7
  byte-issued e = stands_here s _ i (whole-issued e) (omega arith)

  pub row-table : byte_at s (i + 1) ≡ get_or tables r 0
  row-table = stands_at s _ i front.1 1 (omega arith)

  pub row-cells : ((j : ℕ) → get_or cells.numbers j 0 < 4294967296) → (c : ℕ) → c < 8 → row_cell_at s i c ≡ get_or cells.numbers (8 * r + c) 0
  unfolding row_cell_at
  row-cells small c l =
      let f : ℕ → List ℕ = λ j. u32_bytes (number j) in
      let head : List ℕ = front.0 ∷ table ∷ [] in
      u32-stands s (i + 2 + 4 * c) (number c) (small _)
      (stands-piece s (i + 2) 4 f (λ j. length-u32 _) 8
      (stands-part s _ head (collect 8 (λ _. true) f) [] i (i + 2) front.1 (ap (λ (m : List ℕ). head ++ m) (sym (append-nil (collect 8 (λ _. true) f)))) refl) c l)

  pub row-issues : (c : ℕ) → c < 8 → row_issue_at s i c ≡ get_or cells.issues (8 * r + c) 0
  row-issues c l = ⊎_elim some none (dec (any_issue issue))
    where
      some : any_issue issue ≡ true → row_issue_at s i c ≡ issue c
      some e =
          let head : List ℕ = 7 ∷ table ∷ numbers_text number in
          let x = stands-part s _ head (tab 8 issue) [] i (i + 34) (whole-issued e) (ap (λ (m : List ℕ). head ++ m) (sym (append-nil (tab 8 issue))))
          (let k = length-numbers number in omega arith) in
          issue-read s i (byte-issued e) c ∙ stands_at s _ (i + 34) x c (let k = length-tab 8 issue in omega arith) ∙ tab-at 0 8 issue c l

      none : any_issue issue ≡ false → row_issue_at s i c ≡ issue c
      none e =
          issue-plain s i (λ (z : byte_at s i ≡ 7). omega (arith, byte-plain e)) c ∙
          sym (eqb-true (issue c) 0 (not-false (eqb (issue c) 0) (any_none 8 (λ j. not (eqb (issue j) 0)) e c l)))

  pub row-needed : needless s i ≡ false
  row-needed =
      ⊎_elim (λ (e : any_issue issue ≡ true). needed-issued s i (any_same 8 _ _ (λ c l. ap (λ (x : ℕ). not (eqb x 0)) (row-issues c l)) ∙ e))
      (λ (e : any_issue issue ≡ false). needed-plain s i (λ (z : byte_at s i ≡ 7). omega (arith, byte-plain e))) (dec (any_issue issue))

  pub reads-row : Reads s i (row_width (is_issued cells r)) (Row (byte_at s (i + 1)))
  unfolding design_width
  reads-row = ⊎_elim some none (dec (any_issue issue))
    where
      long : i + row_width (is_issued cells r) ≤ length s
      long = let e = length-row cells tables r in let g = stands-long s _ i h in omega arith

      some : any_issue issue ≡ true → Reads s i (row_width (is_issued cells r)) (Row (byte_at s (i + 1)))
      some e =
          let w : 42 ≡ row_width (is_issued cells r) = ap row_width (sym (row-issued cells r ∙ e)) in
          reads_whole s i 7 _ _ (byte-issued e) (omega arith) w (omega arith) long (command-row (byte_at s i) s i 42 (issued (byte-issued e) refl))

      none : any_issue issue ≡ false → Reads s i (row_width (is_issued cells r)) (Row (byte_at s (i + 1)))
      none e =
          let w : 34 ≡ row_width (is_issued cells r) = ap row_width (sym (row-issued cells r ∙ e)) in
          reads_whole s i 4 _ _ (byte-plain e) (omega arith) w (omega arith) long (command-row (byte_at s i) s i 34 (plain (byte-plain e) refl))
