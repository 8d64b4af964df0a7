-- The command at a place is short, unknown, or has its bytes; and the row of a 0x1D is a row, as its type says. Assumes nothing.
use Prim.Native.Nat.{ℕ, ◌+◌, ◌-◌, ◌*◌, ◌^◌, ◌≤◌, ◌<◌}
use native.Mathlib.Omega.{arith}
use mathlib.Core.Path.{◌≡◌, refl, sym, ap, subst, ◌∙◌}
use mathlib.Core.Bool.{Bool, true, false, cond}
use mathlib.Core.List.{List}
use mathlib.Core.Logic.{◌⊎◌, inl, inr, ⊎_elim}
use borrow.Author.Tests.{leb-true, leb-false, ltb-true, ltb-false, eqb-true}
use lib.Dec.{eqb, leb, ltb, lit<}
use lib.ListN.{length, get_or}
use Rattle.finite.specs.Finite.{tab}
use Rattle.finite.proofs.Bools.{dec, clash, same_number}
use Rattle.finite.proofs.Tables.{length-tab, tab-at, tab-past}
use Rattle.lawful.proofs.StoredLaws.{RowSized, RowStored}
use Rattle.command.specs.declared.command.Command.{Command}
use Rattle.command.specs.declared.command.Command.TheVariants.{Table, Constraint, Filling, Row, End, Operate, Put, Remove, Unknown, Short}
use Rattle.command.specs.Bytes.{byte_at, u16_at, u32_at}
use Rattle.command.specs.Commands.{width_of, put_row_at, design_command_at, operation_at, operands_at, command_at}
use Rattle.command.proofs.CommandLaws.{width-put, at-end, at-unknown, at-short, at-whole}
use Rattle.format.proofs.ReadingLaws.{Whole}
use Rattle.format.proofs.Small.{Small}

pub command-kinds : (s : List ℕ) (i : ℕ) → (command_at s i ≡ Short) ⊎ ((command_at s i ≡ Unknown) ⊎ Whole s i)
command-kinds s i =
    ⊎_elim (λ (h : leb (length s) i ≡ true). inl (sym (at-end s i (leb-true (length s) i h))))
    (λ (h : leb (length s) i ≡ false). let l = leb-false (length s) i h in
    ⊎_elim (λ (z : width_of (byte_at s i) ≡ 0). inr (inl (sym (at-unknown s i l z))))
    (λ (z : width_of (byte_at s i) ≡ 0 → ⊥).
    ⊎_elim (λ (k : ltb (length s - i) (width_of (byte_at s i)) ≡ true). inl (sym (at-short s i l z (ltb-true _ _ k))))
    (λ (k : ltb (length s - i) (width_of (byte_at s i)) ≡ false). let g = ltb-false (length s - i) (width_of (byte_at s i)) k in
    inr (inr (record { some = some-width (width_of (byte_at s i)) z; fits = omega arith })))
    (dec (ltb (length s - i) (width_of (byte_at s i))))) (same_number (width_of (byte_at s i)) 0)) (dec (leb (length s) i))
  where
    some-width : (w : ℕ) → (w ≡ 0 → ⊥) → 0 < w
    some-width w h = omega arith

-- ---- a row that is put in

is_put : Command → Bool
is_put (Put r t) = true
is_put (Table t) = false
is_put (Constraint c) = false
is_put (Filling f) = false
is_put (Row t) = false
is_put End = false
is_put (Operate o) = false
is_put (Remove r) = false
is_put Unknown = false
is_put Short = false

either : (b : Bool) (c d : Command) → is_put c ≡ false → is_put d ≡ false → is_put (cond b c d) ≡ false
either true c d h k = h
either false c d h k = k

design-no-put : (b : ℕ) (s : List ℕ) (i : ℕ) → is_put (design_command_at b s i) ≡ false
unfolding design_command_at is_put
design-no-put b s i =
    either (eqb b 0x01) _ _ refl (either (eqb b 0x02) _ _ refl (either (eqb b 0x03) _ _ refl (either (eqb b 0x05) _ _ refl refl)))

-- 0x1D alone puts a row in
put_byte : (b : ℕ) (s : List ℕ) (i : ℕ) → is_put (operands_at b s i) ≡ true → b ≡ 29
unfolding operands_at is_put
put_byte b s i = go (ltb b 0x10) (eqb b 0x1D) (eqb-true b 0x1D) (eqb b 0x1E)
  where
    go : (x y : Bool) → (y ≡ true → b ≡ 29) → (z : Bool) →
        is_put (cond x (design_command_at b s i) (cond y (Put (u16_at s (i + 1)) (byte_at s (i + 3))) (cond z (Remove (u16_at s (i + 1))) (Operate (operation_at b s i))))) ≡
        true → b ≡ 29
    go true y h z e = clash e (design-no-put b s i)
    go false true h z e = h refl
    go false false h true e = clash e refl
    go false false h false e = clash e refl

-- it has its 44 bytes
pub put_whole : (s : List ℕ) (i : ℕ) (r t : ℕ) → Put r t ≡ command_at s i → i + 44 ≤ length s
unfolding is_put
put_whole s i r t e =
    ⊎_elim (λ (x : command_at s i ≡ Short). clash {b = true} refl (ap is_put (e ∙ x)))
    (⊎_elim (λ (x : command_at s i ≡ Unknown). clash {b = true} refl (ap is_put (e ∙ x)))
    (λ (w : Whole s i).
    let b = put_byte (byte_at s i) s i (ap is_put (at-whole s i (omega (arith, w.some, w.fits)) (λ z. omega (arith, w.some, z)) (omega (arith, w.fits)) ∙ sym e)) in
    omega (arith, w.fits, width-put (byte_at s i) b)))
    (command-kinds s i)

-- the row has eight cells
pub put-sized : (s : List ℕ) (i : ℕ) → RowSized (put_row_at s i)
unfolding put_row_at
put-sized s i = record { numbers = length-tab 8 _; issues = length-tab 8 _ }

-- of u32 numbers and u8 issues
u32-below : (s : List ℕ) → Small s → (i : ℕ) → u32_at s i < 2 ^ 32
unfolding u32_at
u32-below s h i = omega (arith, h.at i, h.at (i + 1), h.at (i + 2), h.at (i + 3))

eight-below : (m : ℕ) → 0 < m → (f : ℕ → ℕ) → ((c : ℕ) → f c < m) → (c : ℕ) → get_or (tab 8 f) c 0 < m
eight-below m z f h c =
    ⊎_elim (λ (q : ltb c 8 ≡ true). subst (λ (n : ℕ). n < m) (sym (tab-at 0 8 f c (ltb-true c 8 q))) (h c))
    (λ (q : ltb c 8 ≡ false). subst (λ (n : ℕ). n < m) (sym (tab-past 0 8 f c (ltb-false c 8 q))) z)
    (dec (ltb c 8))

pub put-stored : (s : List ℕ) → Small s → (i : ℕ) → RowStored (put_row_at s i)
unfolding put_row_at
put-stored s h i =
    record {
      number = eight-below (2 ^ 32) (lit< tt) _ (λ c. u32-below s h (i + 4 + 4 * c));
      issue = eight-below (2 ^ 8) (lit< tt) _ (λ c. h.at (i + 36 + c));
    }
