-- The words of a record stored in lent words: what stands there then, and that it is narrow. Assumes nothing.
use Prim.Native.Nat.{ℕ, ◌+◌, ◌≤◌, ◌<◌}
use native.Mathlib.Omega.{arith}
use mathlib.Core.Path.{◌≡◌, ap, ◌∙◌}
use mathlib.Core.Bool.{true}
use mathlib.Core.List.{List}
use lib.ListN.{length}
use lib.Seq.{sets}
use Rattle.finite.proofs.Stores.{sets-at}
use Rattle.state.specs.HeldWords.{held_length, word_at, narrow_held, Whole}
use Rattle.state.proofs.HeldWords.{whole_long, whole-narrow}
use Rattle.state.proofs.LentWords.{narrow-same}

module _ (ws own ws' : List ℕ) (l : held_length ≤ length ws) (e : ws' ≡ sets ws 0 own) where
  pub stored_at : length own ≡ held_length → (i : ℕ) → i < held_length → word_at ws' i ≡ word_at own i
  stored_at z i b =
      let y : i ≡ 0 + i = omega arith in
      ap (λ (vs : List ℕ). word_at vs i) e ∙ ap (λ (k : ℕ). word_at (sets ws 0 own) k) y ∙ sets-at 0 ws 0 own i (omega arith) (omega arith)

  pub stored-narrow : Whole own → narrow_held ws' ≡ true
  stored-narrow w = narrow-same ws' own (stored_at (whole_long own w)) ∙ whole-narrow own w
