-- The byte of a command decides its width and its operands. Assumes nothing.
use Prim.Native.Nat.{ℕ, ◌≤◌, ◌<◌, ◌-◌, ◌+◌}
use native.Mathlib.Omega.{arith}
use mathlib.Core.Path.{◌≡◌, refl, sym, ap, ap₂, subst, ◌∙◌}
use mathlib.Core.Bool.{Bool, true, false, cond}
use mathlib.Core.Logic.{◌⊎◌, inl, inr, ⊎_elim}
use mathlib.Core.List.{List}
use borrow.Author.Tests.{ne_eqb, le-leb, lt-leb, lt-ltb, le-ltb, eq-eqb, ltb-true, ltb-false}
use lib.Dec.{eqb, ltb}
use lib.ListN.{length, get_or-eq_default}
use Rattle.finite.proofs.Bools.{dec, same_number, cond-true, cond-false}
use Rattle.state.specs.declared.cell.Cell.{Cell}
use Rattle.state.specs.declared.design.Table as State-table
use Rattle.state.specs.declared.design.Constraint as State-constraint
use Rattle.state.specs.declared.design.Filling as State-filling
use Rattle.state.specs.declared.design.Column.{Column}
use Rattle.state.specs.declared.held.HeldValue.{HeldValue}
use Rattle.state.specs.declared.held.Range.{Range}
use Rattle.state.specs.declared.operation.Query.{Query}
use Rattle.state.specs.declared.operation.Total.{Total}
use Rattle.state.specs.declared.operation.Operation.TheVariants as O
use Rattle.command.specs.declared.command.Command.TheVariants.{Table, Constraint, Filling, Row, End, Operate, Put, Remove, Unknown, Short}
use Rattle.command.specs.Bytes.{byte_at, u16_at, u32_at}
use Rattle.command.specs.Commands.{design_width, operation_width, width_of, column_at, value_at, held_value_at, range_at, query_at, total_at, put_row_at, row_issue_at, design_command_at, issued_at, operation_at, operands_at, command_at}

-- ---- widths

-- a ROW's byte, and its width: with issues it is wider
pub data RowByte (b w : ℕ) : Type 0 where
  plain : b ≡ 0x04 → w ≡ 34 → RowByte b w
  issued : b ≡ 0x07 → w ≡ 42 → RowByte b w

pub row-width : {b w : ℕ} → RowByte b w → 34 ≤ w
row-width (plain e f) = omega arith
row-width (issued e f) = omega arith

module _ (b : ℕ) where
  pub width-design : b < 16 → width_of b ≡ design_width b
  unfolding width_of
  width-design l = rw (lt-ltb b 16 l)

  pub width-put : b ≡ 29 → width_of b ≡ 44
  unfolding width_of
  width-put e = ap width_of e

  pub width-remove : b ≡ 30 → width_of b ≡ 3
  unfolding width_of
  width-remove e = ap width_of e

  pub width-operation : 16 ≤ b → (b ≡ 29 → ⊥) → (b ≡ 30 → ⊥) → width_of b ≡ operation_width b
  unfolding width_of
  width-operation l h k = rw (le-ltb b 16 l, ne_eqb b 29 h, ne_eqb b 30 k)

  -- a command that has its bytes
  module _ (i n : ℕ) (some : width_of b ≡ 0 → ⊥) (room : i + width_of b ≤ n) where
    pub design-room : b < 16 → (design_width b ≡ 0 → ⊥) × (i + design_width b ≤ n)
    design-room l = (λ e. some (width-design l ∙ e), omega (arith, width-design l))

    pub operation-room : 16 ≤ b → (b ≡ 29 → ⊥) → (b ≡ 30 → ⊥) → (operation_width b ≡ 0 → ⊥) × (i + operation_width b ≤ n)
    operation-room l h k = let e = width-operation l h k in (λ z. some (e ∙ z), omega arith)

  pub design-width-none : (b ≡ 1 → ⊥) → (b ≡ 2 → ⊥) → (b ≡ 3 → ⊥) → (b ≡ 4 → ⊥) → (b ≡ 5 → ⊥) → (b ≡ 7 → ⊥) → design_width b ≡ 0
  unfolding design_width
  design-width-none h₁ h₂ h₃ h₄ h₅ h₇ = rw (ne_eqb b 1 h₁, ne_eqb b 2 h₂, ne_eqb b 3 h₃, ne_eqb b 4 h₄, ne_eqb b 5 h₅, ne_eqb b 7 h₇)

  pub operation-width-none : (b ≡ 16 → ⊥) → (b ≡ 17 → ⊥) → (b ≡ 18 → ⊥) → (b ≡ 19 → ⊥) → (b ≡ 20 → ⊥) → (b ≡ 21 → ⊥) → (b ≡ 23 → ⊥) → (b ≡ 24 → ⊥) → (b ≡ 25 → ⊥) → (b ≡ 26 → ⊥) → (b ≡ 27 → ⊥) → (b ≡ 28 → ⊥)
      → (b ≡ 32 → ⊥) → (b ≡ 33 → ⊥) → (b ≡ 34 → ⊥) → (b ≡ 35 → ⊥) → (b ≡ 37 → ⊥) → operation_width b ≡ 0
  unfolding operation_width
  operation-width-none h₁ h₂ h₃ h₄ h₅ h₆ h₈ h₁₀ h₉ h₁₁ h₁₂ h₇ k₁ k₂ k₃ k₄ k₆ =
      rw (
        ne_eqb b 16 h₁,
        ne_eqb b 17 h₂,
        ne_eqb b 18 h₃,
        ne_eqb b 19 h₄,
        ne_eqb b 20 h₅,
        ne_eqb b 21 h₆,
        ne_eqb b 23 h₈,
        ne_eqb b 24 h₁₀,
        ne_eqb b 25 h₉,
        ne_eqb b 26 h₁₁,
        ne_eqb b 27 h₁₂,
        ne_eqb b 28 h₇,
        ne_eqb b 32 k₁,
        ne_eqb b 33 k₂,
        ne_eqb b 34 k₃,
        ne_eqb b 35 k₄,
        ne_eqb b 37 k₆,
      )

  -- what is left of the design's bytes is a ROW's, and of the operations' below 0x20 QUERY's
  pub is_row : (design_width b ≡ 0 → ⊥) → (b ≡ 1 → ⊥) → (b ≡ 2 → ⊥) → (b ≡ 3 → ⊥) → (b ≡ 5 → ⊥) → RowByte b (design_width b)
  unfolding design_width
  is_row w h₁ h₂ h₃ h₅ =
      ⊎_elim (λ (e : b ≡ 4). plain e (ap design_width e))
      (λ (n : b ≡ 4 → ⊥). ⊎_elim (λ (e : b ≡ 7). issued e (ap design_width e)) (λ (m : b ≡ 7 → ⊥). absurd (w (design-width-none h₁ h₂ h₃ n h₅ m))) (same_number b 7))
      (same_number b 4)

  pub is-query : (operation_width b ≡ 0 → ⊥) → b < 32 → (b ≡ 16 → ⊥) → (b ≡ 17 → ⊥) → (b ≡ 18 → ⊥) → (b ≡ 20 → ⊥) → (b ≡ 21 → ⊥) → (b ≡ 23 → ⊥) → (b ≡ 24 → ⊥) → (b ≡ 25 → ⊥) → (b ≡ 26 → ⊥) → (b ≡ 27 → ⊥) → (b ≡ 28 → ⊥) → b ≡ 19
  is-query w l h₁ h₂ h₃ h₅ h₆ h₈ h₁₀ h₉ h₁₁ h₁₂ h₇ =
      ⊎_elim (λ (e : b ≡ 19). e)
      (λ (n : b ≡ 19 → ⊥). absurd (w (operation-width-none h₁ h₂ h₃ n h₅ h₆ h₈ h₁₀ h₉ h₁₁ h₁₂ h₇ (λ e. omega arith) (λ e. omega arith) (λ e. omega arith) (λ e. omega arith) (λ e. omega arith))))
      (same_number b 19)

  -- an operation with an issue is one byte wider than the same without it
  pub issue-width : (operation_width b ≡ 0 → ⊥) → 32 ≤ b → (b - 16 < 32) × (0 < operation_width (b - 16)) × (operation_width (b - 16) + 1 ≡ operation_width b)
  unfolding operation_width
  issue-width w l =
      ⊎_elim (λ (e : b ≡ 32). wider 32 e (omega arith, omega arith, refl))
      (λ (k₁ : b ≡ 32 → ⊥). ⊎_elim (λ (e : b ≡ 33). wider 33 e (omega arith, omega arith, refl))
      (λ (k₂ : b ≡ 33 → ⊥). ⊎_elim (λ (e : b ≡ 34). wider 34 e (omega arith, omega arith, refl))
      (λ (k₃ : b ≡ 34 → ⊥). ⊎_elim (λ (e : b ≡ 35). wider 35 e (omega arith, omega arith, refl))
      (λ (k₄ : b ≡ 35 → ⊥). ⊎_elim (λ (e : b ≡ 37). wider 37 e (omega arith, omega arith, refl))
      (λ (k₆ : b ≡ 37 → ⊥). absurd (w (operation-width-none (λ e. omega arith) (λ e. omega arith) (λ e. omega arith) (λ e. omega arith) (λ e. omega arith) (λ e. omega arith) (λ e. omega arith) (λ e. omega arith) (λ e. omega arith) (λ e. omega arith) (λ e. omega arith) (λ e. omega arith) k₁ k₂ k₃ k₄ k₆)))
      (same_number b 37)) (same_number b 35)) (same_number b 34)) (same_number b 33)) (same_number b 32)
    where
      wider : (n : ℕ) → b ≡ n → (n - 16 < 32) × (0 < operation_width (n - 16)) × (operation_width (n - 16) + 1 ≡ operation_width n)
          → (b - 16 < 32) × (0 < operation_width (b - 16)) × (operation_width (b - 16) + 1 ≡ operation_width b)
      wider n e h = subst (λ (k : ℕ). (k - 16 < 32) × (0 < operation_width (k - 16)) × (operation_width (k - 16) + 1 ≡ operation_width k)) (sym e) h

-- a command takes at most 44 bytes
pick : (x : Bool) (m n : ℕ) → m ≤ 44 → n ≤ 44 → cond x m n ≤ 44
pick true m n k l = k
pick false m n k l = l

design-most : (b : ℕ) → design_width b ≤ 44
unfolding design_width
design-most b =
    pick (eqb b 1) 3 _ (omega arith) (pick (eqb b 2) 5 _ (omega arith) (pick (eqb b 3) 11 _ (omega arith) (pick (eqb b 4) 34 _ (omega arith)
    (pick (eqb b 5) 1 _ (omega arith) (pick (eqb b 7) 42 0 (omega arith) (omega arith))))))

operation-most : (b : ℕ) → operation_width b ≤ 44
unfolding operation_width
operation-most b =
    pick (eqb b 16) 6 _ (omega arith) (pick (eqb b 17) 6 _ (omega arith) (pick (eqb b 18) 7 _ (omega arith)
    (pick (eqb b 19) 16 _ (omega arith) (pick (eqb b 20) 1 _ (omega arith) (pick (eqb b 21) 18 _ (omega arith) (pick (eqb b 23) 2 _ (omega arith) (pick (eqb b 24) 3 _ (omega arith) (pick (eqb b 25) 8 _ (omega arith) (pick (eqb b 26) 10 _ (omega arith) (pick (eqb b 27) 10 _ (omega arith) (pick (eqb b 28) 1 _ (omega arith)
    (pick (eqb b 32) 7 _ (omega arith) (pick (eqb b 33) 7 _ (omega arith) (pick (eqb b 34) 8 _ (omega arith)
    (pick (eqb b 35) 17 _ (omega arith) (pick (eqb b 37) 19 0 (omega arith) (omega arith)))))))))))))))))

pub width-most : (b : ℕ) → width_of b ≤ 44
unfolding width_of
width-most b = pick (ltb b 16) _ _ (design-most b) (pick (eqb b 29) 44 _ (omega arith) (pick (eqb b 30) 3 _ (omega arith) (operation-most b)))

-- past the end there is nothing to move over
pub width-past : (s : List ℕ) (i : ℕ) → length s ≤ i → width_of (byte_at s i) ≡ 0
unfolding width_of design_width
width-past s i l = ap width_of (get_or-eq_default s 0 l)

-- ---- the operands of each command

-- without an issue, or with one
below : (b : ℕ) → (b < 32) ⊎ (32 ≤ b)
below b = ⊎_elim (λ (e : ltb b 32 ≡ true). inl (ltb-true b 32 e)) (λ (e : ltb b 32 ≡ false). inr (ltb-false b 32 e)) (dec (ltb b 32))

-- the byte p of the same operation without an issue
pub plain_fits : (b i p n : ℕ) → (b < 32 → p ≡ b) → (32 ≤ b → p + 16 ≡ b) → (operation_width b ≡ 0 → ⊥) → i + operation_width b ≤ n →
    (operation_width p ≡ 0 → ⊥) × (p < 32) × (i + operation_width p ≤ n)
plain_fits b i p n old new w l =
    ⊎_elim
    (λ (z : b < 32). let e = old z in (λ (o : operation_width p ≡ 0). w (ap operation_width (sym e) ∙ o), omega arith, omega (arith, ap operation_width e)))
    (λ (z : 32 ≤ b). let h = issue-width b w z in let e : p ≡ b - 16 = omega (arith, new z) in
    (λ (o : operation_width p ≡ 0). omega (arith, ap operation_width e, h.1), omega (arith, h.0), omega (arith, ap operation_width e, h.2)))
    (below b)

module _ (b : ℕ) (s : List ℕ) (i : ℕ) where
  pub operands-design : b < 16 → design_command_at b s i ≡ operands_at b s i
  unfolding operands_at
  operands-design l = sym (rw (lt-ltb b 16 l))

  pub operands-put : (r t : ℕ) → r ≡ u16_at s (i + 1) → t ≡ byte_at s (i + 3) → b ≡ 29 → Put r t ≡ operands_at b s i
  unfolding operands_at
  operands-put r t p q e = ap₂ Put p q ∙ ap (λ (k : ℕ). operands_at k s i) (sym e)

  pub operands-remove : (r : ℕ) → r ≡ u16_at s (i + 1) → b ≡ 30 → Remove r ≡ operands_at b s i
  unfolding operands_at
  operands-remove r p e = ap Remove p ∙ ap (λ (k : ℕ). operands_at k s i) (sym e)

  pub operands-operation : 16 ≤ b → (b ≡ 29 → ⊥) → (b ≡ 30 → ⊥) → Operate (operation_at b s i) ≡ operands_at b s i
  unfolding operands_at
  operands-operation l h k = sym (rw (le-ltb b 16 l, ne_eqb b 29 h, ne_eqb b 30 k))

  pub command-table : (t : State-table.Table) → t ≡ record { columns = byte_at s (i + 1); unique = byte_at s (i + 2) } → b ≡ 1 → Table t ≡ design_command_at b s i
  unfolding design_command_at
  command-table t p e = ap Table p ∙ ap (λ (k : ℕ). design_command_at k s i) (sym e)

  pub command-constraint : (c : State-constraint.Constraint) → c ≡ record { source = column_at s (i + 1); target = column_at s (i + 3) } → b ≡ 2
      → Constraint c ≡ design_command_at b s i
  unfolding design_command_at
  command-constraint c p e = ap Constraint p ∙ ap (λ (k : ℕ). design_command_at k s i) (sym e)

  pub command-filling : (f : State-filling.Filling) → f ≡ record { column = column_at s (i + 1); low = u32_at s (i + 3); high = u32_at s (i + 7) } → b ≡ 3
      → Filling f ≡ design_command_at b s i
  unfolding design_command_at
  command-filling f p e = ap Filling p ∙ ap (λ (k : ℕ). design_command_at k s i) (sym e)

  pub command-row : (w : ℕ) → RowByte b w → Row (byte_at s (i + 1)) ≡ design_command_at b s i
  unfolding design_command_at
  command-row w (plain e f) = ap (λ (k : ℕ). design_command_at k s i) (sym e)
  command-row w (issued e f) = ap (λ (k : ℕ). design_command_at k s i) (sym e)

  pub command-end : b ≡ 5 → End ≡ design_command_at b s i
  unfolding design_command_at
  command-end e = ap (λ (k : ℕ). design_command_at k s i) (sym e)

  -- an operation of the first kind has issue 0, and one of the second its last byte
  pub operation-old : b < 32 → issued_at b s 0 i ≡ operation_at b s i
  unfolding operation_at
  operation-old l = sym (rw (lt-ltb b 32 l))

  pub operation-new : 32 ≤ b → issued_at (b - 16) s (byte_at s (i + operation_width b - 1)) i ≡ operation_at b s i
  unfolding operation_at
  operation-new l = sym (rw (le-ltb b 32 l))

  -- the operation by the byte p of the same without an issue, and the issue v
  pub plain-operation : (p v : ℕ) → (b < 32 → p ≡ b) × (32 ≤ b → p + 16 ≡ b) → (b < 32 → v ≡ 0) × (32 ≤ b → v ≡ byte_at s (i + operation_width b - 1)) →
      issued_at p s v i ≡ operation_at b s i
  plain-operation p v x y =
      ⊎_elim (λ (z : b < 32). ap₂ (λ (q u : ℕ). issued_at q s u i) (x.0 z) (y.0 z) ∙ operation-old z)
      (λ (z : 32 ≤ b). let e : p ≡ b - 16 = omega (arith, x.1 z) in ap₂ (λ (q u : ℕ). issued_at q s u i) e (y.1 z) ∙ operation-new z) (below b)

  module _ (w : ℕ) where
    at : (n : ℕ) → b ≡ n → issued_at n s w i ≡ issued_at b s w i
    at n e = ap (λ (k : ℕ). issued_at k s w i) (sym e)

    pub operation-refer : (v : HeldValue) → v ≡ held_value_at s w i → b ≡ 16 → O.Refer v ≡ issued_at b s w i
    unfolding issued_at
    operation-refer v p e = ap O.Refer p ∙ at 16 e

    pub operation-drop : (v : HeldValue) → v ≡ held_value_at s w i → b ≡ 17 → O.Drop v ≡ issued_at b s w i
    unfolding issued_at
    operation-drop v p e = ap O.Drop p ∙ at 17 e

    pub operation-probe : (k : Column) (v : Cell) → k ≡ column_at s (i + 1) → v ≡ value_at s w (i + 3) → b ≡ 18 → O.Probe k v ≡ issued_at b s w i
    unfolding issued_at
    operation-probe k v p q e = ap₂ O.Probe p q ∙ at 18 e

    pub operation-evenness : b ≡ 20 → O.Evenness ≡ issued_at b s w i
    unfolding issued_at
    operation-evenness e = at 20 e

    pub operation-total : (t : Total) → t ≡ total_at s w i → b ≡ 21 → O.Total t ≡ issued_at b s w i
    unfolding issued_at
    operation-total t p e = ap O.Total p ∙ at 21 e

    pub operation-name : (d : ℕ) → d ≡ byte_at s (i + 1) → b ≡ 23 → O.Name d ≡ issued_at b s w i
    unfolding issued_at
    operation-name d p e = ap O.Name p ∙ at 23 e

    pub operation-reason : (r : ℕ) → r ≡ u16_at s (i + 1) → b ≡ 24 → O.Reason r ≡ issued_at b s w i
    unfolding issued_at
    operation-reason r p e = ap O.Reason p ∙ at 24 e

    pub operation-opener : (k : Column) (v : Cell) → k ≡ column_at s (i + 1) → v ≡ value_at s (byte_at s (i + 7)) (i + 3) → b ≡ 25 → O.Opener k v ≡ issued_at b s w i
    unfolding issued_at
    operation-opener k v p q e = ap₂ O.Opener p q ∙ at 25 e

    pub operation-refer-range : (q : Range) → q ≡ range_at s i → b ≡ 26 → O.ReferRange q ≡ issued_at b s w i
    unfolding issued_at
    operation-refer-range q p e = ap O.ReferRange p ∙ at 26 e

    pub operation-drop-range : (q : Range) → q ≡ range_at s i → b ≡ 27 → O.DropRange q ≡ issued_at b s w i
    unfolding issued_at
    operation-drop-range q p e = ap O.DropRange p ∙ at 27 e

    pub operation-smallest-knot : b ≡ 28 → O.SmallestKnot ≡ issued_at b s w i
    unfolding issued_at
    operation-smallest-knot e = at 28 e

    pub operation-query : (q : Query) → q ≡ query_at s w i → b ≡ 19 → O.Query q ≡ issued_at b s w i
    unfolding issued_at
    operation-query q p e = ap O.Query p ∙ at 19 e

-- the row that is put in, part by part
pub put-row : (s : List ℕ) (i : ℕ) (x y : List ℕ) → x ≡ (put_row_at s i).numbers → y ≡ (put_row_at s i).issues
    → record { table = byte_at s (i + 3); numbers = x; issues = y } ≡ put_row_at s i
unfolding put_row_at
put-row s i x y p q = λ j. record { table = byte_at s (i + 3); numbers = p j; issues = q j }

-- ---- the command at a place, test by test

module _ (s : List ℕ) (i : ℕ) where
  pub at-end : length s ≤ i → Short ≡ command_at s i
  unfolding command_at
  at-end h = sym (rw (le-leb (length s) i h))

  module _ (l : i < length s) where
    pub at-unknown : width_of (byte_at s i) ≡ 0 → Unknown ≡ command_at s i
    unfolding command_at
    at-unknown h = sym (rw (lt-leb (length s) i l, eq-eqb (width_of (byte_at s i)) 0 h))

    module _ (w : width_of (byte_at s i) ≡ 0 → ⊥) where
      pub at-short : length s - i < width_of (byte_at s i) → Short ≡ command_at s i
      unfolding command_at
      at-short h = sym (rw (lt-leb (length s) i l, ne_eqb (width_of (byte_at s i)) 0 w, lt-ltb (length s - i) (width_of (byte_at s i)) h))

      pub at-whole : width_of (byte_at s i) ≤ length s - i → operands_at (byte_at s i) s i ≡ command_at s i
      unfolding command_at
      at-whole h = sym (rw (lt-leb (length s) i l, ne_eqb (width_of (byte_at s i)) 0 w, le-ltb (length s - i) (width_of (byte_at s i)) h))

-- ---- the issues of a ROW

module _ (s : List ℕ) (i : ℕ) where
  -- a plain ROW has no issues
  pub issue-plain : (byte_at s i ≡ 7 → ⊥) → (c : ℕ) → row_issue_at s i c ≡ 0
  unfolding row_issue_at
  issue-plain n c = cond-false (eqb (byte_at s i) 7) _ 0 (ne_eqb (byte_at s i) 7 n)

  pub issue-read : byte_at s i ≡ 7 → (c : ℕ) → row_issue_at s i c ≡ byte_at s (i + 34 + c)
  unfolding row_issue_at
  issue-read e c = cond-true (eqb (byte_at s i) 7) _ 0 (eq-eqb (byte_at s i) 7 e)
