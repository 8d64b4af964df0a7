-- The command at a place, by its byte: a command of the design that is whole, or one that no draft takes. Assumes nothing.
use Prim.Native.Nat.{ℕ, ◌+◌, ◌-◌, ◌≤◌, ◌<◌}
use native.Mathlib.Omega.{arith}
use mathlib.Core.Path.{◌≡◌, refl, sym, ap, subst, ◌∙◌}
use mathlib.Core.Bool.{true, false}
use mathlib.Core.Logic.{⊎_elim}
use mathlib.Core.List.{List}
use borrow.Author.Tests.{leb-true, leb-false, ltb-true, ltb-false}
use lib.Dec.{leb, ltb}
use lib.ListN.{length}
use Rattle.finite.proofs.Bools.{dec, same_number}
use Rattle.state.specs.declared.design.Table as State-table
use Rattle.state.specs.declared.design.Constraint as State-constraint
use Rattle.state.specs.declared.design.Filling as State-filling
use Rattle.state.specs.declared.operation.Operation.{Operation}
use Rattle.command.specs.declared.command.Command.{Command}
use Rattle.command.specs.declared.command.Command.TheVariants.{Table, Constraint, Filling, Row, End, Operate, Put, Remove, Unknown, Short}
use Rattle.command.specs.Bytes.{byte_at, u16_at, u32_at}
use Rattle.command.specs.Commands.{design_width, width_of, column_at, design_command_at, operation_at, operands_at, command_at}
use Rattle.format.specs.Reading.{Draft, advanced}
use Rattle.format.specs.Reading.Advanced.{refused}
use Rattle.command.proofs.CommandLaws.{RowByte, plain, issued, at-end, at-unknown, at-short, at-whole, width-design, is_row, operands-design, operands-put, operands-remove, operands-operation, command-table, command-constraint, command-filling, command-row, command-end}

-- what the command c of width w, at place i, is
pub data Seen (s : List ℕ) (i : ℕ) (c : Command) (w : ℕ) : Type 0 where
  seen-table : byte_at s i ≡ 1 → w ≡ 3 → i + 3 ≤ length s → c ≡ Table (record { columns = byte_at s (i + 1); unique = byte_at s (i + 2) }) → Seen s i c w
  seen-constraint : byte_at s i ≡ 2 → w ≡ 5 → i + 5 ≤ length s → c ≡ Constraint (record { source = column_at s (i + 1); target = column_at s (i + 3) }) → Seen s i c w
  seen-filling : byte_at s i ≡ 3 → w ≡ 11 → i + 11 ≤ length s → c ≡ Filling (record { column = column_at s (i + 1); low = u32_at s (i + 3); high = u32_at s (i + 7) }) → Seen s i c w
  seen-row : RowByte (byte_at s i) w → i + w ≤ length s → c ≡ Row (byte_at s (i + 1)) → Seen s i c w
  seen_end : byte_at s i ≡ 5 → w ≡ 1 → i + 1 ≤ length s → c ≡ End → Seen s i c w
  seen-refused : (n : ℕ) → ((p : Draft) → advanced p s i c ≡ refused n) → ((t : ℕ) → c ≡ Row t → ⊥) → Seen s i c w

-- ---- what is no row

operate-no-row : (o : Operation) (t : ℕ) → Operate o ≡ Row t → ⊥
operate-no-row o t e = let q : ◌≡◌ {A = ℕ} 0 1 = cc in omega arith

put-no-row : (r u t : ℕ) → Put r u ≡ Row t → ⊥
put-no-row r u t e = let q : ◌≡◌ {A = ℕ} 0 1 = cc in omega arith

remove-no-row : (r t : ℕ) → Remove r ≡ Row t → ⊥
remove-no-row r t e = let q : ◌≡◌ {A = ℕ} 0 1 = cc in omega arith

pub table-no-row : (x : State-table.Table) (t : ℕ) → Table x ≡ Row t → ⊥
table-no-row x t e = let q : ◌≡◌ {A = ℕ} 0 1 = cc in omega arith

pub constraint-no-row : (x : State-constraint.Constraint) (t : ℕ) → Constraint x ≡ Row t → ⊥
constraint-no-row x t e = let q : ◌≡◌ {A = ℕ} 0 1 = cc in omega arith

pub filling-no-row : (x : State-filling.Filling) (t : ℕ) → Filling x ≡ Row t → ⊥
filling-no-row x t e = let q : ◌≡◌ {A = ℕ} 0 1 = cc in omega arith

short-no-row : (t : ℕ) → Short ≡ Row t → ⊥
short-no-row t e = let q : ◌≡◌ {A = ℕ} 0 1 = cc in omega arith

unknown-no-row : (t : ℕ) → Unknown ≡ Row t → ⊥
unknown-no-row t e = let q : ◌≡◌ {A = ℕ} 0 1 = cc in omega arith

-- ---- the command is whole: a command of the design, by its byte

module _ (s : List ℕ) (i : ℕ) (some : width_of (byte_at s i) ≡ 0 → ⊥) (e : operands_at (byte_at s i) s i ≡ command_at s i) (room : i + width_of (byte_at s i) ≤ length s) where
  of-design : byte_at s i < 16 → Seen s i (command_at s i) (width_of (byte_at s i))
  unfolding design_width
  of-design l =
      let b = byte_at s i in
      let c : design_command_at b s i ≡ command_at s i = operands-design b s i l ∙ e in
      let w : (n : ℕ) → b ≡ n → width_of b ≡ design_width n = λ n h. width-design b l ∙ ap design_width h in
      ⊎_elim (λ (h : b ≡ 1). seen-table h (w 1 h) (omega (arith, w 1 h)) (sym c ∙ sym (command-table b s i _ refl h)))
      (λ (n₁ : b ≡ 1 → ⊥). ⊎_elim (λ (h : b ≡ 2). seen-constraint h (w 2 h) (omega (arith, w 2 h)) (sym c ∙ sym (command-constraint b s i _ refl h)))
      (λ (n₂ : b ≡ 2 → ⊥). ⊎_elim (λ (h : b ≡ 3). seen-filling h (w 3 h) (omega (arith, w 3 h)) (sym c ∙ sym (command-filling b s i _ refl h)))
      (λ (n₃ : b ≡ 3 → ⊥). ⊎_elim (λ (h : b ≡ 5). seen_end h (w 5 h) (omega (arith, w 5 h)) (sym c ∙ sym (command-end b s i h)))
      (λ (n₅ : b ≡ 5 → ⊥). let h = subst (RowByte b) (sym (width-design b l)) (is_row b (λ z. some (width-design b l ∙ z)) n₁ n₂ n₃ n₅) in
      seen-row h room (sym c ∙ sym (command-row b s i (width_of b) h)))
      (same_number b 5)) (same_number b 3)) (same_number b 2)) (same_number b 1)

  -- one that changes the rows, or an operation: no design has it
  of-run : 16 ≤ byte_at s i → Seen s i (command_at s i) (width_of (byte_at s i))
  unfolding advanced
  of-run l =
      let b = byte_at s i in
      ⊎_elim (λ (h : b ≡ 29). let c = operands-put b s i _ _ refl refl h ∙ e in
      seen-refused 3 (λ p. ap (advanced p s i) (sym c)) (λ t k. put-no-row (u16_at s (i + 1)) (byte_at s (i + 3)) t (c ∙ k)))
      (λ (n : b ≡ 29 → ⊥). ⊎_elim (λ (h : b ≡ 30). let c = operands-remove b s i _ refl h ∙ e in
      seen-refused 3 (λ p. ap (advanced p s i) (sym c)) (λ t k. remove-no-row (u16_at s (i + 1)) t (c ∙ k)))
      (λ (m : b ≡ 30 → ⊥). let c = operands-operation b s i l n m ∙ e in
      seen-refused 3 (λ p. ap (advanced p s i) (sym c)) (λ t k. operate-no-row (operation_at b s i) t (c ∙ k)))
      (same_number b 30)) (same_number b 29)

  whole : Seen s i (command_at s i) (width_of (byte_at s i))
  whole =
      let b = byte_at s i in
      ⊎_elim (λ (h : ltb b 16 ≡ true). of-design (ltb-true b 16 h)) (λ (h : ltb b 16 ≡ false). of-run (ltb-false b 16 h)) (dec (ltb b 16))

pub seen : (s : List ℕ) (i : ℕ) → Seen s i (command_at s i) (width_of (byte_at s i))
unfolding advanced
seen s i =
    ⊎_elim (λ (h : leb (length s) i ≡ true). seen-refused 1 (λ p. ap (advanced p s i) (sym (at-end s i (leb-true (length s) i h)))) (λ t e. short-no-row t (at-end s i (leb-true (length s) i h) ∙ e)))
    (λ (h : leb (length s) i ≡ false). let l = leb-false (length s) i h in
    ⊎_elim (λ (z : width_of (byte_at s i) ≡ 0). seen-refused 2 (λ p. ap (advanced p s i) (sym (at-unknown s i l z))) (λ t e. unknown-no-row t (at-unknown s i l z ∙ e)))
    (λ (z : width_of (byte_at s i) ≡ 0 → ⊥).
    ⊎_elim (λ (k : ltb (length s - i) (width_of (byte_at s i)) ≡ true). seen-refused 1 (λ p. ap (advanced p s i) (sym (at-short s i l z (ltb-true (length s - i) (width_of (byte_at s i)) k)))) (λ t e. short-no-row t (at-short s i l z (ltb-true (length s - i) (width_of (byte_at s i)) k) ∙ e)))
    (λ (k : ltb (length s - i) (width_of (byte_at s i)) ≡ false). let g = ltb-false (length s - i) (width_of (byte_at s i)) k in whole s i z (at-whole s i l z g) (omega arith))
    (dec (ltb (length s - i) (width_of (byte_at s i))))) (same_number (width_of (byte_at s i)) 0)) (dec (leb (length s) i))

-- a ROW is whole
pub row-whole : (s : List ℕ) (i t : ℕ) → command_at s i ≡ Row t → (i + 34 ≤ length s) × (byte_at s i ≡ 7 → i + 42 ≤ length s)
row-whole s i t e = go (seen s i)
  where
    go : Seen s i (command_at s i) (width_of (byte_at s i)) → (i + 34 ≤ length s) × (byte_at s i ≡ 7 → i + 42 ≤ length s)
    go (seen-table a w f c) = absurd (let z : ◌≡◌ {A = ℕ} 0 1 = cc in omega arith)
    go (seen-constraint a w f c) = absurd (let z : ◌≡◌ {A = ℕ} 0 1 = cc in omega arith)
    go (seen-filling a w f c) = absurd (let z : ◌≡◌ {A = ℕ} 0 1 = cc in omega arith)
    go (seen-row (plain a w) f c) = (omega arith, λ (h : byte_at s i ≡ 7). omega arith)
    go (seen-row (issued a w) f c) = (omega arith, λ (h : byte_at s i ≡ 7). omega arith)
    go (seen_end a w f c) = absurd (let z : ◌≡◌ {A = ℕ} 0 1 = cc in omega arith)
    go (seen-refused n h g) = absurd (g t e)
