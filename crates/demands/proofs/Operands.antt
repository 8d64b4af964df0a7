-- The value of a PROBE that stands in a script is one that can be stored, as its operands are bytes. Assumes nothing.
use Prim.Native.Nat.{ℕ, ◌+◌, ◌-◌, ◌^◌, ◌<◌}
use native.Mathlib.Omega.{arith}
use mathlib.Core.Path.{◌≡◌, ap, subst}
use mathlib.Core.Bool.{Bool, true, false, cond}
use mathlib.Core.List.{List}
use borrow.Author.Tests.{eq-eqb}
use lib.Dec.{eqb, leb, ltb, lit<}
use lib.ListN.{length, get_or}
use Rattle.finite.proofs.Bools.{clash}
use Rattle.model.specs.Cell.{Fits, numberless}
use Rattle.state.specs.declared.cell.Cell.{Cell}
use Rattle.state.specs.declared.design.Column.{Column}
use Rattle.state.specs.declared.operation.Operation.{Operation}
use Rattle.state.specs.declared.operation.Operation.TheVariants as O
use Rattle.state.specs.Held.{no_cell}
use Rattle.state.specs.Meaning.{cell_of}
use Rattle.command.specs.declared.command.Command.{Command}
use Rattle.command.specs.declared.command.Command.TheVariants.{Table, Constraint, Filling, Row, End, Operate, Put, Remove, Unknown, Short}
use Rattle.command.specs.Bytes.{byte_at, u32_at}
use Rattle.command.specs.Commands.{operation_width, width_of, design_command_at, issued_at, operation_at, operands_at, command_at}

-- the value that is probed
probed_in : Operation → Cell
probed_in (O.Probe k v) = v
probed_in (O.Refer v) = no_cell
probed_in (O.Drop v) = no_cell
probed_in (O.Query q) = no_cell
probed_in O.Evenness = no_cell
probed_in O.SmallestKnot = no_cell
probed_in (O.Total t) = no_cell
probed_in (O.Name d) = no_cell
probed_in (O.Opener k v) = no_cell
probed_in (O.Reason r) = no_cell
probed_in (O.ReferRange r) = no_cell
probed_in (O.DropRange r) = no_cell

probed : Command → Cell
unfolding probed_in
probed (Operate op) = probed_in op
probed (Put r t) = no_cell
probed (Remove r) = no_cell
probed (Table t) = no_cell
probed (Constraint c) = no_cell
probed (Filling f) = no_cell
probed (Row t) = no_cell
probed End = no_cell
probed Unknown = no_cell
probed Short = no_cell

record Below (v : Cell) : Type 0 where
  number : v.number < 2 ^ 32
  issue : v.issue < 2 ^ 8

none : Below no_cell
none = record { number = lit< tt; issue = lit< tt }

pub either : {A : Type 0} (P : A → Type 0) (b : Bool) {x y : A} → P x → P y → P (cond b x y)
either P true p q = p
either P false p q = q

module _ (s : List ℕ) (bytes : (j : ℕ) → get_or s j 0 < 256) where
  pub u32-below : (i : ℕ) → u32_at s i < 2 ^ 32
  unfolding u32_at
  u32-below i = omega (arith, bytes i, bytes (i + 1), bytes (i + 2), bytes (i + 3))

  abbrev Small-in : Operation → Type 0
  Small-in op = Below (probed_in op)

  issued-below : (b v i : ℕ) → v < 2 ^ 8 → Small-in (issued_at b s v i)
  unfolding issued_at probed_in
  issued-below b v i l =
      either Small-in (eqb b 0x10) none
      (either Small-in (eqb b 0x11) none
      (either Small-in (eqb b 0x12) (record { number = u32-below (i + 3); issue = l })
      (either Small-in (eqb b 0x14) none
      (either Small-in (eqb b 0x15) none
      (either Small-in (eqb b 0x17) none
      (either Small-in (eqb b 0x18) none
      (either Small-in (eqb b 0x19) none
      (either Small-in (eqb b 0x1A) none
      (either Small-in (eqb b 0x1B) none
      (either Small-in (eqb b 0x1C) none none))))))))))

  operation-below : (b i : ℕ) → Small-in (operation_at b s i)
  unfolding operation_at
  operation-below b i =
      either Small-in (ltb b 0x20) (issued-below b 0 i (lit< tt)) (issued-below (b - 0x10) (byte_at s (i + operation_width b - 1)) i (bytes (i + operation_width b - 1)))

  abbrev Small-at : Command → Type 0
  Small-at c = Below (probed c)

  design-below : (b i : ℕ) → Small-at (design_command_at b s i)
  unfolding design_command_at probed
  design-below b i =
      either Small-at (eqb b 0x01) none (either Small-at (eqb b 0x02) none (either Small-at (eqb b 0x03) none (either Small-at (eqb b 0x05) none none)))

  command-below : (i : ℕ) → Small-at (command_at s i)
  unfolding command_at operands_at probed
  command-below i =
      let b = byte_at s i in
      either Small-at (leb (length s) i) none
      (either Small-at (eqb (width_of b) 0) none
      (either Small-at (ltb (length s - i) (width_of b)) none
      (either Small-at (ltb b 0x10) (design-below b i)
      (either Small-at (eqb b 0x1D) none
      (either Small-at (eqb b 0x1E) none (operation-below b i))))))

  pub probe-fits : (i : ℕ) (k : Column) (v : Cell) → command_at s i ≡ Operate (O.Probe k v) → numberless (cell_of v) ≡ false → Fits (cell_of v)
  unfolding probed numberless
  probe-fits i k v e n =
      let w : Below v = subst Below (ap probed e) (command-below i) in
      record { number = w.number; issue = w.issue; full = λ z. clash (eq-eqb v.number 0 z) n }
