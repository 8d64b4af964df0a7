-- Comparing number by number: the laws of `lower_then`. Assumes nothing.
use Prim.Native.Nat.{ℕ, ◌<◌}
use native.Mathlib.Omega.{arith}
use mathlib.Core.Path.{◌≡◌, sym, ap, ◌∙◌}
use mathlib.Core.Logic.{◌⊎◌, inl, inr, ⊎_elim}
use mathlib.Core.Bool.{Bool, true, false, ◌&&◌, ◌||◌, or-true, and-eq-true_iff}
use borrow.Author.Tests.{eqb-true, eq-eqb, ltb-true, ltb-false, lt-ltb}
use lib.Dec.{eqb, ltb}
use Rattle.finite.specs.Finite.{lower_then}
use Rattle.finite.proofs.Bools.{both, bool-ext, clash, or_cases, order, refute}

module _ (a b : ℕ) (x : Bool) where
  pub lower-less : a < b → lower_then a b x ≡ true
  unfolding lower_then
  lower-less l = ap (λ (t : Bool). t || (eqb a b && x)) (lt-ltb a b l)

  pub lower-same : a ≡ b → x ≡ true → lower_then a b x ≡ true
  unfolding lower_then
  lower-same e h = ap (λ (t : Bool). ltb a b || t) (both (eq-eqb a b e) h) ∙ or-true (ltb a b)

  pub lower-cases : lower_then a b x ≡ true → (a < b) ⊎ ((a ≡ b) × (x ≡ true))
  unfolding lower_then
  lower-cases h =
      ⊎_elim (λ t. inl (ltb-true a b t)) (λ t. let q = (and-eq-true_iff (eqb a b) x).0 t in inr (eqb-true a b q.0, q.1)) (or_cases (ltb a b) (eqb a b && x) h)

-- a number is lower than itself only if the rest decides so
pub lower-self : (a : ℕ) (x : Bool) → x ≡ false → lower_then a a x ≡ false
lower-self a x h = refute (lower_then a a x) (λ t. ⊎_elim (λ l. omega arith) (λ q. clash q.1 h) (lower-cases a a x t))

pub lower-trans : (a b c : ℕ) (x y z : Bool) → (x ≡ true → y ≡ true → z ≡ true) → lower_then a b x ≡ true → lower_then b c y ≡ true → lower_then a c z ≡ true
lower-trans a b c x y z h s t = go (lower-cases a b x s) (lower-cases b c y t)
  where
    go : (a < b) ⊎ ((a ≡ b) × (x ≡ true)) → (b < c) ⊎ ((b ≡ c) × (y ≡ true)) → lower_then a c z ≡ true
    go (inl l) (inl m) = lower-less a c z (omega arith)
    go (inl l) (inr m) = lower-less a c z (omega (arith, m.0))
    go (inr l) (inl m) = lower-less a c z (omega (arith, l.0))
    go (inr l) (inr m) = lower-same a c z (l.0 ∙ m.0) (h l.1 m.1)

-- where neither is lower the numbers are the same, and the rest decides for neither
pub lower-neither : (a b : ℕ) (x y : Bool) → lower_then a b x ≡ false → lower_then b a y ≡ false → (a ≡ b) × (x ≡ false) × (y ≡ false)
lower-neither a b x y s t = go (order a b)
  where
    go : (a < b) ⊎ ((a ≡ b) ⊎ (b < a)) → (a ≡ b) × (x ≡ false) × (y ≡ false)
    go (inl l) = clash (lower-less a b x l) s
    go (inr (inl e)) = (e, refute x (λ h. clash (lower-same a b x e h) s), refute y (λ h. clash (lower-same b a y (sym e) h) t))
    go (inr (inr l)) = clash (lower-less b a y l) t

-- the two numbers differ, and decide; or are the same, and the rest does
pub lower-apart : (a b : ℕ) (x : Bool) → (a ≡ b → ⊥) → ltb a b ≡ lower_then a b x
lower-apart a b x n = bool-ext (ltb a b) (lower_then a b x) (λ t. lower-less a b x (ltb-true a b t))
    (λ t. ⊎_elim (λ l. lt-ltb a b l) (λ q. absurd (n q.0)) (lower-cases a b x t))

pub lower-alike : (a b : ℕ) (x : Bool) → a ≡ b → x ≡ lower_then a b x
lower-alike a b x e = bool-ext x (lower_then a b x) (lower-same a b x e) (λ t. ⊎_elim (λ l. absurd (omega arith)) (λ q. q.1) (lower-cases a b x t))

-- ---- the last number

pub last-trans : (a b c : ℕ) → ltb a b ≡ true → ltb b c ≡ true → ltb a c ≡ true
last-trans a b c p q = lt-ltb a c (omega (arith, ltb-true a b p, ltb-true b c q))

pub last-neither : (a b : ℕ) → ltb a b ≡ false → ltb b a ≡ false → a ≡ b
last-neither a b p q = omega (arith, ltb-false a b p, ltb-false b a q)
