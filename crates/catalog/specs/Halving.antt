-- A test that fails from some place on, and where. Assumes nothing.
use Rattle.std.specs.Prelude.{ℕ, ◌≤◌, ◌<◌, ◌≡◌, Bool, true, false}

-- where it holds, it holds before
abbrev pub Falling : ℕ → ℕ → (ℕ → Bool) → Type 0
Falling from to p = (i j : ℕ) → from ≤ i → i ≤ j → j < to → p j ≡ true → p i ≡ true

-- of the places from `from` to `to`, it holds at those before place a, and fails from place e on
pub record Halved (from to : ℕ) (p : ℕ → Bool) (a e : ℕ) : Type 0 where
  pub start : from ≤ a
  pub order : a ≤ e
  pub end : e ≤ to
  pub holds : (i : ℕ) → from ≤ i → i < a → p i ≡ true
  pub fails : (i : ℕ) → e ≤ i → i < to → p i ≡ false
