-- Searching, counting, tabulating and collecting over the numbers below n. One set of functions serves rows, columns, constraints,
-- fillings and held values; the laws that a loop over these numbers needs are in `proofs/`. Assumes nothing.
use Rattle.std.specs.Prelude.{ℕ, zero, suc, ◌+◌, ◌-◌, Bool, true, false, not, cond, ◌&&◌, ◌||◌, List, [], ◌∷◌, ◌++◌, eqb, ltb}

-- some i below n passes the test
unfoldable pub any : ℕ → (ℕ → Bool) → Bool
any zero p = false
any (suc n) p = any n p || p n

-- every i below n passes the test
unfoldable pub all : ℕ → (ℕ → Bool) → Bool
all zero p = true
all (suc n) p = all n p && p n

-- how many i below n pass the test
unfoldable pub count : ℕ → (ℕ → Bool) → ℕ
count zero p = 0
count (suc n) p = count n p + cond (p n) 1 0

-- f 0, f 1, .. f (n - 1)
unfoldable pub tab : {A : Type 0} → ℕ → (ℕ → A) → List A
tab zero f = []
tab (suc n) f = f 0 ∷ tab n (λ i. f (suc i))

-- f i for each i below n that passes the test, in rising order, one after the other
unfoldable pub collect : {A : Type 0} → ℕ → (ℕ → Bool) → (ℕ → List A) → List A
collect zero p f = []
collect (suc n) p f = collect n p f ++ cond (p n) (f n) []

-- the least of the m numbers from i on that passes the test; n if none does
unfoldable pub first_of : ℕ → ℕ → (ℕ → Bool) → ℕ → ℕ
first_of n zero p i = n
first_of n (suc m) p i = cond (p i) i (first_of n m p (suc i))

-- the least number from i on and below n that passes the test; n if none does
unfoldable pub first_from : ℕ → (ℕ → Bool) → ℕ → ℕ
first_from n p i = first_of n (n - i) p i

-- the least number below n that passes the test; n if none does
abbrev pub first : ℕ → (ℕ → Bool) → ℕ
first n p = first_from n p 0

-- a is the lower number, or the two are the same and the rest decides
unfoldable pub lower_then : ℕ → ℕ → Bool → Bool
lower_then a b rest = ltb a b || (eqb a b && rest)

-- the first number below n that passes the test, and that no other one that passes is lower than; n if none passes
unfoldable pub lowest_of : ℕ → (ℕ → Bool) → (ℕ → ℕ → Bool) → ℕ
lowest_of n p lower = first n (λ i. p i && not (any n (λ j. p j && lower j i)))
