-- What is known of the constraint that stands at a place, and of all of them. Assumes nothing.
use Prim.Native.Nat.{ℕ, ◌<◌}
use native.Mathlib.Omega.{arith}
use mathlib.Core.Path.{◌≡◌, refl, ap, ◌∙◌}
use mathlib.Core.List.{List}
use lib.ListN.{get_or}
use Rattle.finite.proofs.Tables.{tab-at}
use Rattle.model.specs.Scheme.{Scheme}
use Rattle.state.specs.declared.design.Design.{Design}
use Rattle.state.specs.Design.{InRange, constraint_at}
use Rattle.state.specs.Meaning.{scheme_of}
use Rattle.load.specs.Targets.{target_places}

-- where constraint i ends
pub target_at : (d : Design) (places : List ℕ) → places ≡ target_places d → (i : ℕ) → i < 16 → get_or places i 0 ≡ (constraint_at d i).target.place
target_at d places e i l = ap (λ (xs : List ℕ). get_or xs i 0) e ∙ tab-at 0 16 (λ j. (constraint_at d j).target.place) i l

-- a scheme has n constraints, and `places` says where they end
abbrev pub Targets : Scheme → ℕ → List ℕ → Type 0
Targets S n places = (n ≡ S.constraints) × ((i : ℕ) → i < n → get_or places i 0 ≡ (S.constraint i).target.place)

pub targets_of : (d : Design) (places : List ℕ) → places ≡ target_places d → InRange d → Targets (scheme_of d) d.constraints places
unfolding scheme_of
targets_of d places e h = (refl, λ i l. target_at d places e i (omega (arith, h.constraints)))
