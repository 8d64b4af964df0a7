-- Numbers in decimal, as ASCII text. Assumes nothing.
use Rattle.std.specs.Prelude.{ℕ, zero, suc, ◌+◌, ◌/◌, ◌%◌, cond, List, [], ◌∷◌, ◌++◌, ltb}

abbrev pub space : ℕ
space = 32

-- the digit of a number below 10
abbrev pub digit : ℕ → ℕ
digit n = 48 + n

-- a number in decimal, without leading zeros; f is a number of digits that suffices
unfoldable pub decimal_by : ℕ → ℕ → List ℕ
decimal_by zero n = []
decimal_by (suc f) n = cond (ltb n 10) (digit n ∷ []) (decimal_by f (n / 10) ++ (digit (n % 10) ∷ []))

-- a number below 2 ^ 64 has at most 20 digits
abbrev pub decimal : ℕ → List ℕ
decimal n = decimal_by 20 n

-- a space, then the number
abbrev pub spaced : ℕ → List ℕ
spaced n = space ∷ decimal n
