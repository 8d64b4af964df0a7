-- Causes 7 and 12 in front of whatever follows them: `f n` is what is given where cause n applies. Assumes nothing.
use Prim.Native.Nat.{ℕ}
use mathlib.Core.Path.{◌≡◌, refl, ap, ◌∙◌}
use mathlib.Core.Bool.{Bool, true, false, not, cond, and-eq-true_iff}
use Rattle.finite.proofs.Bools.{cond-false}
use Rattle.state.specs.Lent.{State, long_enough, lawful, sound, cause_at}

-- the cause, by the two tests
abbrev cause_of : Bool → Bool → ℕ
cause_of a b = cond (not a) 7 (cond (not b) 12 0)

module _ {A : Type 0} (s : State) (f : ℕ → A) (rest : A) where
  -- one of them applies
  pub caused : (cause_at s ≡ 0 → ⊥) → cond (not (long_enough s)) (f 7) (cond (not (lawful s)) (f 12) rest) ≡ f (cause_at s)
  unfolding cause_at
  caused = go (long_enough s) (lawful s)
    where
      go : (a b : Bool) → (cause_of a b ≡ 0 → ⊥) → cond (not a) (f 7) (cond (not b) (f 12) rest) ≡ f (cause_of a b)
      go false b n = refl
      go true false n = refl
      go true true n = absurd (n refl)

  -- neither does
  pub uncaused : sound s ≡ true → cond (not (long_enough s)) (f 7) (cond (not (lawful s)) (f 12) rest) ≡ rest
  uncaused e =
      let h = (and-eq-true_iff (long_enough s) (lawful s)).0 e in
      cond-false (not (long_enough s)) _ _ (ap not h.0) ∙ cond-false (not (lawful s)) _ _ (ap not h.1)
