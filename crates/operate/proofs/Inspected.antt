-- A match on an operation's case: which cases inspect. Assumes nothing.
use Prim.Native.Nat.{ℕ}
use mathlib.Core.Path.{◌≡◌, refl, ap}
use mathlib.Core.Logic.{◌⊎◌, inl, inr}
use mathlib.Core.Bool.{true}
use Rattle.finite.proofs.Bools.{clash}
use Rattle.state.specs.declared.cell.Cell.{Cell}
use Rattle.state.specs.declared.design.Column.{Column}
use Rattle.state.specs.declared.operation.Operation.{Operation}
use Rattle.state.specs.declared.operation.Operation.TheVariants as O
use Rattle.operate.specs.Inspecting.{inspects}

-- an operation that inspects is one of four cases
pub not-inspecting : (o : Operation) → (o ≡ O.Evenness → ⊥) → (o ≡ O.SmallestKnot → ⊥) → ((k : Column) (v : Cell) → o ≡ O.Opener k v → ⊥) →
    ((r : ℕ) → o ≡ O.Reason r → ⊥) → inspects o ≡ true → ⊥
not-inspecting (O.Refer v) e s p r h = clash h refl
not-inspecting (O.Drop v) e s p r h = clash h refl
not-inspecting (O.Probe k v) e s p r h = clash h refl
not-inspecting (O.Query q) e s p r h = clash h refl
not-inspecting O.Evenness e s p r h = e refl
not-inspecting (O.Total t) e s p r h = clash h refl
not-inspecting O.SmallestKnot e s p r h = s refl
not-inspecting (O.Name d) e s p r h = clash h refl
not-inspecting (O.Opener k v) e s p r h = p k v refl
not-inspecting (O.Reason x) e s p r h = r x refl
not-inspecting (O.ReferRange x) e s p r h = clash h refl
not-inspecting (O.DropRange x) e s p r h = clash h refl

-- and each of the four does
pub inspecting : (o : Operation) → (o ≡ O.Evenness) ⊎ ((o ≡ O.SmallestKnot) ⊎ (((k : Column) × (v : Cell) × (o ≡ O.Opener k v)) ⊎ ((r : ℕ) × (o ≡ O.Reason r)))) →
    inspects o ≡ true
inspecting o (inl e) = ap inspects e
inspecting o (inr (inl e)) = ap inspects e
inspecting o (inr (inr (inl p))) = ap inspects p.2
inspecting o (inr (inr (inr p))) = ap inspects p.1
