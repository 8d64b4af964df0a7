-- Numbers in decimal: digit by digit, and how many digits there can be. Assumes nothing.
use Prim.Native.Nat.{ℕ, zero, suc, ◌+◌, ◌/◌, ◌%◌, ◌^◌, ◌≤◌, ◌<◌}
use native.Mathlib.Nat.{pow-suc, div-lt_iff_lt-mul}
use native.Mathlib.Omega.{arith}
use mathlib.Core.Path.{◌≡◌, sym, ap, ◌∙◌}
use mathlib.Core.Logic.{⊎_elim}
use mathlib.Core.Bool.{true, cond}
use mathlib.Core.List.{List, [], ◌∷◌, ◌++◌}
use borrow.Author.Tests.{lt-ltb, le-ltb, ltb-false}
use lib.Dec.{ltb}
use lib.ListN.{length, length-append}
use Rattle.finite.proofs.Bools.{dec, cond-true, cond-false}
use Rattle.finite.specs.Decimal.{digit, decimal, decimal_by}

-- a digit is taken off the end
shorter : (n k : ℕ) → n < 10 ^ suc k → n / 10 < 10 ^ k
shorter n k h = (div-lt_iff_lt-mul {k = 10} {x = n} {y = 10 ^ k} (omega arith)).1 (rw pow-suc at h)

-- ---- digit by digit

-- one digit more is asked for than there can be, which changes nothing
enough : (f n : ℕ) → n < 10 ^ suc f → decimal_by (suc (suc f)) n ≡ decimal_by (suc f) n
unfolding decimal_by
enough zero n h = let t : ltb n 10 ≡ true = lt-ltb n 10 (omega arith) in cond-true (ltb n 10) _ _ t ∙ sym (cond-true (ltb n 10) _ _ t)
enough (suc f) n h = ap (λ (xs : List ℕ). cond (ltb n 10) (digit n ∷ []) (xs ++ (digit (n % 10) ∷ []))) (enough f (n / 10) (shorter n (suc f) h))

-- a number below 10 is its digit
pub decimal-one : (n : ℕ) → n < 10 → decimal n ≡ digit n ∷ []
unfolding decimal_by
decimal-one n h = cond-true (ltb n 10) _ _ (lt-ltb n 10 h)

-- a larger number is its tenth, then its last digit
pub decimal-more : (n : ℕ) → n < 2 ^ 64 → 10 ≤ n → decimal n ≡ decimal (n / 10) ++ (digit (n % 10) ∷ [])
unfolding decimal_by
decimal-more n b h =
    cond-false (ltb n 10) _ _ (le-ltb n 10 h) ∙ ap (λ (xs : List ℕ). xs ++ (digit (n % 10) ∷ [])) (sym (enough 18 (n / 10) (shorter n 19 (omega arith))))

-- ---- how many digits there can be

-- at most as many as are asked for
decimal_by-within : (f n : ℕ) → length (decimal_by f n) ≤ f
unfolding decimal_by
decimal_by-within zero n = omega arith
decimal_by-within (suc f) n =
    ⊎_elim (λ t. rw t (omega arith)) (λ t. rw t (rw length-append (omega (arith, decimal_by-within f (n / 10))))) (dec (ltb n 10))

-- a number below 10 ^ k has at most k, where k is not 0
decimal_by-short : (f k n : ℕ) → n < 10 ^ suc k → length (decimal_by f n) ≤ suc k
unfolding decimal_by
decimal_by-short zero k n h = omega arith
decimal_by-short (suc f) k n h =
    ⊎_elim (λ t. rw t (omega arith)) (λ t. rw t (rw length-append (from k h (λ j. decimal_by-short f j (n / 10)) (ltb-false n 10 t)))) (dec (ltb n 10))
  where
    from : (k : ℕ) → n < 10 ^ suc k → ((j : ℕ) → n / 10 < 10 ^ suc j → length (decimal_by f (n / 10)) ≤ suc j) → 10 ≤ n →
        length (decimal_by f (n / 10)) + 1 ≤ suc k
    from zero h ih g = absurd (omega arith)
    from (suc k) h ih g = omega (arith, ih k (shorter n (suc k) h))

pub decimal-short : (n : ℕ) → length (decimal n) ≤ 20
decimal-short n = decimal_by-within 20 n

-- a number below 10 ^ (k + 1) has at most k + 1
pub decimal-within : (k n : ℕ) → n < 10 ^ suc k → length (decimal n) ≤ suc k
decimal-within k n h = decimal_by-short 20 k n h

-- a u32 has at most 10
pub decimal-short-32 : (n : ℕ) → n < 2 ^ 32 → length (decimal n) ≤ 10
decimal-short-32 n h = decimal-within 9 n (omega arith)

-- the tenth of a u64 has at most 19
pub tenth-short : (n : ℕ) → n < 2 ^ 64 → length (decimal (n / 10)) ≤ 19
tenth-short n h = decimal_by-short 20 18 (n / 10) (shorter n 19 (omega arith))
