-- The laws of `first_from`: it is at or after its start, nothing before it passes, it passes or is n; and what follows. Assumes nothing.
use Prim.Native.Nat.{ℕ, zero, suc, ◌+◌, ◌-◌, ◌≤◌, ◌<◌}
use native.Mathlib.Decide.{dec_lt}
use native.Mathlib.Omega.{arith}
use mathlib.Core.Path.{◌≡◌, sym, ap, subst, ◌∙◌}
use mathlib.Core.Bool.{Bool, true, false}
use Rattle.finite.specs.Finite.{first_of, first_from}
use Rattle.finite.proofs.Bools.{clash, refute, cond-case}

module _ (n : ℕ) where
  -- r is the first number from i on that passes p, or n and there is none
  pub record First (p : ℕ → Bool) (i r : ℕ) : Type 0 where
    pub start : i ≤ r
    pub bound : r ≤ n
    pub none : (s : ℕ) → i ≤ s → s < r → p s ≡ false
    pub here : r < n → p r ≡ true

  first-of : (m : ℕ) (p : ℕ → Bool) (i : ℕ) → i + m ≡ n → First p i (first_of n m p i)
  unfolding first_of
  first-of zero p i e = record { start = omega arith; bound = omega arith; none = λ s a b. none s a b; here = λ h. absurd (omega arith) }
    where
      none : (s : ℕ) → i ≤ s → s < n → p s ≡ false
      none s a b = absurd (omega arith)
  first-of (suc m) p i e = cond-case (First p i) (p i) i (first_of n m p (suc i)) hit (λ q. miss q (first-of m p (suc i) (omega arith)))
    where
      hit : p i ≡ true → First p i i
      hit h = record { start = omega arith; bound = omega arith; none = λ s a b. absurd (omega arith); here = λ _. h }

      miss : p i ≡ false → First p (suc i) (first_of n m p (suc i)) → First p i (first_of n m p (suc i))
      miss q f = record { start = omega arith; bound = f.bound; none = λ s a b. go s (dec_lt i s) a b; here = f.here }
        where
          go : (s : ℕ) → Dec (i < s) → i ≤ s → s < first_of n m p (suc i) → p s ≡ false
          go s (yes l) a b = f.none s l b
          go s (no l) a b = let e : i ≡ s = omega arith in subst (λ (x : ℕ). p x ≡ false) e q

  pub first-from : (p : ℕ → Bool) (i : ℕ) → i ≤ n → First p i (first_from n p i)
  unfolding first_from
  first-from p i l = first-of (n - i) p i (omega arith)

  -- there is only one
  pub first_one : (p : ℕ → Bool) (i r s : ℕ) → First p i r → First p i s → r ≡ s
  first_one p i r s f g = omega (arith, not-less r s f g, not-less s r g f)
    where
      not-less : (x y : ℕ) → First p i x → First p i y → y ≤ x
      not-less x y u w = go (dec_lt x y)
        where
          go : Dec (x < y) → y ≤ x
          go (yes l) = clash (u.here (omega (arith, w.bound))) (w.none x u.start l)
          go (no l) = omega arith

  pub first-is : (p : ℕ → Bool) (i r : ℕ) → First p i r → r ≡ first_from n p i
  first-is p i r f = first_one p i r (first_from n p i) f (first-from p i (omega (arith, f.start, f.bound)))

  -- from n on there is none
  pub first_past : (p : ℕ → Bool) (i : ℕ) → n ≤ i → first_from n p i ≡ n
  unfolding first_from first_of
  first_past p i l = let e : n - i ≡ 0 = omega arith in ap (λ (m : ℕ). first_of n m p i) e

  pub first-none : (p : ℕ → Bool) (i : ℕ) → ((r : ℕ) → i ≤ r → r < n → p r ≡ false) → first_from n p i ≡ n
  first-none p i h = go (dec_lt i n)
    where
      go : Dec (i < n) → first_from n p i ≡ n
      go (yes l) = sym (first-is p i n (record { start = omega arith; bound = omega arith; none = h; here = λ k. absurd (omega arith) }))
      go (no l) = first_past p i (omega arith)

  -- numbers that fail can be passed over
  pub first-through : (p : ℕ → Bool) (i j : ℕ) → i ≤ j → j ≤ n → ((r : ℕ) → i ≤ r → r < j → p r ≡ false) → first_from n p i ≡ first_from n p j
  first-through p i j a b h =
      sym (first-is p i (first_from n p j) (record { start = omega (arith, f.start); bound = f.bound; none = λ s c d. go s (dec_lt s j) c d; here = f.here }))
    where
      f : First p j (first_from n p j)
      f = first-from p j b

      go : (s : ℕ) → Dec (s < j) → i ≤ s → s < first_from n p j → p s ≡ false
      go s (yes l) c d = h s c l
      go s (no l) c d = f.none s (omega arith) d

  pub first-skip : (p : ℕ → Bool) (i : ℕ) → p i ≡ false → first_from n p i ≡ first_from n p (i + 1)
  first-skip p i h = go (dec_lt i n)
    where
      go : Dec (i < n) → first_from n p i ≡ first_from n p (i + 1)
      go (yes l) = first-through p i (i + 1) (omega arith) (omega arith) (λ r a b. let e : i ≡ r = omega arith in subst (λ (x : ℕ). p x ≡ false) e h)
      go (no l) = first_past p i (omega arith) ∙ sym (first_past p (i + 1) (omega arith))

  -- a number that passes is the first from itself on
  pub first-here : (p : ℕ → Bool) (i : ℕ) → i < n → p i ≡ true → first_from n p i ≡ i
  first-here p i l h = sym (first-is p i i (record { start = omega arith; bound = omega arith; none = λ s a b. absurd (omega arith); here = λ _. h }))

  -- tests that pass alike from i on
  pub first-same : (p q : ℕ → Bool) (i : ℕ) → ((r : ℕ) → i ≤ r → r < n → p r ≡ q r) → first_from n p i ≡ first_from n q i
  first-same p q i h = go (dec_lt i n)
    where
      f : i < n → First p i (first_from n p i)
      f l = first-from p i (omega arith)

      go : Dec (i < n) → first_from n p i ≡ first_from n q i
      go (yes l) =
          first-is q i (first_from n p i)
          (record {
            start = (f l).start;
            bound = (f l).bound;
            none = λ s a b. sym (h s a (omega (arith, (f l).bound))) ∙ (f l).none s a b;
            here = λ k. sym (h (first_from n p i) (f l).start k) ∙ (f l).here k;
          })
      go (no l) = first_past p i (omega arith) ∙ sym (first_past q i (omega arith))

  -- what passes p passes q: the first that passes p lies at or after the first that passes q
  pub first-within : (p q : ℕ → Bool) (i : ℕ) → i ≤ n → ((r : ℕ) → p r ≡ true → q r ≡ true) → first_from n p (first_from n q i) ≡ first_from n p i
  first-within p q i l h =
      let f = first-from q i l in
      sym (first-through p i (first_from n q i) f.start f.bound (λ r a b. refute (p r) (λ e. clash (h r e) (f.none r a b))))

  -- a walk goes on
  pub first-after : (p : ℕ → Bool) (i r : ℕ) → i < n → r ≡ first_from n p (i + 1) → i < r
  first-after p i r l e = let f = first-from p (i + 1) (omega arith) in omega (arith, f.start, e)

  -- a search that has passed all numbers
  pub first-end : (p : ℕ → Bool) (i : ℕ) → i ≤ n → n ≤ i → i ≡ first_from n p i
  first-end p i a b = omega (arith, first_past p i b)
