-- Reading a design command by command: a command that is read is whole, and there are always enough turns. Assumes nothing.
use Prim.Native.Nat.{ℕ, zero, suc, ◌+◌, ◌-◌, ◌≤◌, ◌<◌}
use native.Mathlib.Omega.{arith}
use mathlib.Core.Path.{◌≡◌, refl, sym, ap, ◌∙◌}
use mathlib.Core.List.{List}
use lib.ListN.{length}
use Rattle.command.specs.declared.command.Command.{Command}
use Rattle.command.specs.declared.command.Command.TheVariants.{Row, End}
use Rattle.command.specs.Bytes.{byte_at}
use Rattle.command.specs.Commands.{width_of, command_at}
use Rattle.format.specs.Reading.{Draft, Advanced, advanced, DesignRead, read_on, read_from}
use Rattle.format.specs.Reading.Advanced.{on, complete, refused}
use Rattle.format.specs.Reading.DesignRead.{accepted, refused_at}
use Rattle.command.proofs.CommandLaws.{row-width, at-end}
use Rattle.format.proofs.Seen.{Seen, seen-table, seen-constraint, seen-filling, seen-row, seen_end, seen-refused, seen}
use Rattle.format.proofs.AdvancedLaws.{not_on, not-complete, only_end}

-- a command that is read has its bytes, at least one
pub record Whole (s : List ℕ) (i : ℕ) : Type 0 where
  pub some : 0 < width_of (byte_at s i)
  pub fits : i + width_of (byte_at s i) ≤ length s

-- the command at place i is whole, unless every draft refuses it
pub whole-or : (s : List ℕ) (i : ℕ) → ((n : ℕ) → ((p : Draft) → advanced p s i (command_at s i) ≡ refused n) → ((t : ℕ) → command_at s i ≡ Row t → ⊥) → ⊥) → Whole s i
whole-or s i never = go (seen s i)
  where
    go : Seen s i (command_at s i) (width_of (byte_at s i)) → Whole s i
    go (seen-table a w f c) = record { some = omega arith; fits = omega arith }
    go (seen-constraint a w f c) = record { some = omega arith; fits = omega arith }
    go (seen-filling a w f c) = record { some = omega arith; fits = omega arith }
    go (seen-row a f c) = record { some = omega (arith, row-width a); fits = f }
    go (seen_end a w f c) = record { some = omega arith; fits = omega arith }
    go (seen-refused n h k) = absurd (never n h k)

pub advanced-whole : (s : List ℕ) (i : ℕ) (p q : Draft) → advanced p s i (command_at s i) ≡ on q → Whole s i
advanced-whole s i p q e = whole-or s i (λ n h k. not_on n q (sym (h p) ∙ e))

-- ---- END alone completes a design

pub record Ends (s : List ℕ) (i : ℕ) : Type 0 where
  pub byte : byte_at s i ≡ 5
  pub width : width_of (byte_at s i) ≡ 1
  pub fits : i + 1 ≤ length s

pub advanced-complete : (s : List ℕ) (i : ℕ) (p : Draft) → advanced p s i (command_at s i) ≡ complete → Ends s i
advanced-complete s i p e = go (only_end p s i (command_at s i) e) (seen s i)
  where
    go : command_at s i ≡ End → Seen s i (command_at s i) (width_of (byte_at s i)) → Ends s i
    go h (seen-table a w f c) = let z : ◌≡◌ {A = ℕ} 0 1 = cc in omega arith
    go h (seen-constraint a w f c) = let z : ◌≡◌ {A = ℕ} 0 1 = cc in omega arith
    go h (seen-filling a w f c) = let z : ◌≡◌ {A = ℕ} 0 1 = cc in omega arith
    go h (seen-row a f c) = let z : ◌≡◌ {A = ℕ} 0 1 = cc in omega arith
    go h (seen_end a w f c) = record { byte = a; width = w; fits = f }
    go h (seen-refused n g k) = absurd (not-complete n (sym (g p) ∙ e))

-- ---- enough turns

same-on : (go go' : Draft → ℕ → DesignRead) (p : Draft) (i w : ℕ) (t : Advanced) → ((q : Draft) → t ≡ on q → go q (i + w) ≡ go' q (i + w)) → read_on go p i w t ≡ read_on go' p i w t
same-on go go' p i w (on q) h = h q refl
same-on go go' p i w complete h = refl
same-on go go' p i w (refused n) h = refl

-- past the end nothing begins
past_end : (n : ℕ) (s : List ℕ) (p : Draft) (i : ℕ) → length s ≤ i → read_from n s p i ≡ refused_at 1 i
unfolding read_from advanced
past_end zero s p i h = refl
past_end (suc n) s p i h = ap (λ (c : Command). read_on (read_from n s) p i (width_of (byte_at s i)) (advanced p s i c)) (sym (at-end s i h))

pub fuel : (n m : ℕ) (s : List ℕ) (p : Draft) (i : ℕ) → length s < n + i → length s < m + i → read_from n s p i ≡ read_from m s p i
unfolding read_from
fuel zero m s p i h k = sym (past_end m s p i (omega arith))
fuel (suc n) zero s p i h k = past_end (suc n) s p i (omega arith)
fuel (suc n) (suc m) s p i h k =
    same-on (read_from n s) (read_from m s) p i (width_of (byte_at s i)) (advanced p s i (command_at s i))
    (λ q e. let x = advanced-whole s i p q e in fuel n m s q (i + width_of (byte_at s i)) (omega arith) (omega arith))

-- ---- the reading from a place on, with as many turns as there are bytes left

unfoldable pub read_all : List ℕ → Draft → ℕ → DesignRead
read_all s p i = read_from (suc (length s - i)) s p i

module _ (s : List ℕ) (p : Draft) (i : ℕ) where
  pub all-on : (q : Draft) → advanced p s i (command_at s i) ≡ on q → read_all s p i ≡ read_all s q (i + width_of (byte_at s i))
  unfolding read_all read_from
  all-on q e =
      let x = advanced-whole s i p q e in
      ap (read_on (read_from (length s - i) s) p i (width_of (byte_at s i))) e ∙
      fuel (length s - i) (suc (length s - (i + width_of (byte_at s i)))) s q (i + width_of (byte_at s i)) (omega arith) (omega arith)

  pub all-complete : advanced p s i (command_at s i) ≡ complete → read_all s p i ≡ accepted p (i + width_of (byte_at s i))
  unfolding read_all read_from
  all-complete e = ap (read_on (read_from (length s - i) s) p i (width_of (byte_at s i))) e

  pub all-refused : (n : ℕ) → advanced p s i (command_at s i) ≡ refused n → read_all s p i ≡ refused_at n i
  unfolding read_all read_from
  all-refused n e = ap (read_on (read_from (length s - i) s) p i (width_of (byte_at s i))) e
