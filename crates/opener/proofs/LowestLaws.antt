-- The lowest of some values, by number, then issue: it is one of them, and none of them stands before it. Assumes nothing.
use Prim.Native.Nat.{ℕ, zero, suc, ◌<◌}
use native.Mathlib.Omega.{arith}
use mathlib.Core.Path.{◌≡◌, refl, sym, ap, subst, ◌∙◌}
use mathlib.Core.Logic.{◌⊎◌, inl, inr, ⊎_elim}
use mathlib.Core.Bool.{Bool, true, false, cond}
use borrow.Author.Tests.{eqb-true, ltb-true, lt-ltb, eq-eqb, ne_eqb}
use lib.Dec.{eqb, ltb}
use Rattle.finite.proofs.Bools.{clash}
use Rattle.finite.proofs.Search.{below_suc}
use Rattle.model.specs.Cell.{Cell, numberless}
use Rattle.opener.specs.Reading.{is_before, lower, lowest_of}

-- ---- the order

-- a stands before b by its number, or by its issue
pub before-cases : (a b : Cell) → is_before a b ≡ true → (a.number < b.number) ⊎ ((a.number ≡ b.number) × (a.issue < b.issue))
unfolding is_before
before-cases a b = go (eqb a.number b.number) (ltb a.issue b.issue) (ltb a.number b.number) (eqb-true a.number b.number) (ltb-true a.issue b.issue) (ltb-true a.number b.number)
  where
    go : (x y z : Bool) → (x ≡ true → a.number ≡ b.number) → (y ≡ true → a.issue < b.issue) → (z ≡ true → a.number < b.number) → cond x y z ≡ true →
        (a.number < b.number) ⊎ ((a.number ≡ b.number) × (a.issue < b.issue))
    go true y z f g h e = inr (f refl, g e)
    go false y z f g h e = inl (h e)

-- a smaller number, or the same with a smaller issue, does
pub number-before : (a b : Cell) → a.number < b.number → is_before a b ≡ true
unfolding is_before
number-before a b l = ap (λ (x : Bool). cond x (ltb a.issue b.issue) (ltb a.number b.number)) (ne_eqb a.number b.number (λ e. omega arith)) ∙ lt-ltb a.number b.number l

pub issue-before : (a b : Cell) → a.number ≡ b.number → a.issue < b.issue → is_before a b ≡ true
unfolding is_before
issue-before a b e l = ap (λ (x : Bool). cond x (ltb a.issue b.issue) (ltb a.number b.number)) (eq-eqb a.number b.number e) ∙ lt-ltb a.issue b.issue l

-- no cell stands before itself
before_self : (a : Cell) → is_before a a ≡ true → ⊥
before_self a e = ⊎_elim (λ l. omega arith) (λ q. omega (arith, q.1)) (before-cases a a e)

-- one that stands before a lower one stands before the other
before-trans : (a b c : Cell) → is_before a b ≡ true → is_before b c ≡ true → is_before a c ≡ true
before-trans a b c e h = ⊎_elim
    (λ l. ⊎_elim (λ m. number-before a c (omega arith)) (λ q. number-before a c (omega (arith, q.0))) (before-cases b c h))
    (λ p. ⊎_elim (λ m. number-before a c (omega (arith, p.0))) (λ q. issue-before a c (p.0 ∙ q.0) (omega (arith, p.1, q.1))) (before-cases b c h))
    (before-cases a b e)

-- ---- the lower of two

-- x does not stand before m, which has a number
pub record NotBefore (x m : Cell) : Type 0 where
  pub numbered : numberless m ≡ false
  pub least : is_before x m ≡ true → ⊥

lower-one : (a b : Cell) → (lower a b ≡ a) ⊎ (lower a b ≡ b)
unfolding lower
lower-one a b = go (numberless a) (numberless b) (is_before b a)
  where
    go : (x y z : Bool) → (cond x b (cond y a (cond z b a)) ≡ a) ⊎ (cond x b (cond y a (cond z b a)) ≡ b)
    go true y z = inr refl
    go false true z = inl refl
    go false false true = inr refl
    go false false false = inl refl

-- it does not come after the first, nor after the second
lower-first : (x a b : Cell) → NotBefore x a → NotBefore x (lower a b)
unfolding lower
lower-first x a b n = go (numberless a) (numberless b) (is_before b a) refl refl refl
  where
    go : (p q z : Bool) → numberless a ≡ p → numberless b ≡ q → is_before b a ≡ z → NotBefore x (cond p b (cond q a (cond z b a)))
    go true q z e f g = clash e n.numbered
    go false true z e f g = n
    go false false true e f g = record { numbered = f; least = λ h. n.least (before-trans x b a h g) }
    go false false false e f g = n

lower-second : (a b : Cell) → numberless b ≡ false → NotBefore b (lower a b)
unfolding lower
lower-second a b n = go (numberless a) (numberless b) (is_before b a) refl refl refl
  where
    go : (p q z : Bool) → numberless a ≡ p → numberless b ≡ q → is_before b a ≡ z → NotBefore b (cond p b (cond q a (cond z b a)))
    go true q z e f g = record { numbered = n; least = before_self b }
    go false true z e f g = clash f n
    go false false true e f g = record { numbered = n; least = before_self b }
    go false false false e f g = record { numbered = e; least = λ h. clash h g }

-- ---- the lowest of many

module _ (a : Cell) (f : ℕ → Cell) where
  -- it is one of them
  pub lowest-one : (n : ℕ) → (lowest_of a n f ≡ a) ⊎ ((r : ℕ) × (r < n) × (lowest_of a n f ≡ f r))
  unfolding lowest_of
  lowest-one zero = inl refl
  lowest-one (suc n) = ⊎_elim
      (λ e. ⊎_elim (λ h. inl (e ∙ h)) (λ q. inr (q.0, omega (arith, q.1), e ∙ q.2)) (lowest-one n))
      (λ e. inr (n, omega arith, e))
      (lower-one (lowest_of a n f) (f n))

  -- and none of them that has a number stands before it
  pub lowest_start : (n : ℕ) → numberless a ≡ false → NotBefore a (lowest_of a n f)
  unfolding lowest_of
  lowest_start zero h = record { numbered = h; least = before_self a }
  lowest_start (suc n) h = lower-first a (lowest_of a n f) (f n) (lowest_start n h)

  pub lowest-at : (n r : ℕ) → r < n → numberless (f r) ≡ false → NotBefore (f r) (lowest_of a n f)
  unfolding lowest_of
  lowest-at zero r l h = absurd (omega arith)
  lowest-at (suc n) r l h = ⊎_elim
      (λ e. subst (λ (x : ℕ). NotBefore (f x) (lower (lowest_of a n f) (f n))) (sym e) (lower-second (lowest_of a n f) (f n) (sym (ap (λ (x : ℕ). numberless (f x)) e) ∙ h)))
      (λ m. lower-first (f r) (lowest_of a n f) (f n) (lowest-at n r m h))
      (below_suc l)
