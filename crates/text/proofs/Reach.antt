-- How far a writer gets with bytes and numbers. Assumes nothing.
use Prim.Native.Nat.{ℕ, suc, ◌+◌, ◌^◌, ◌≤◌, ◌<◌}
use native.Mathlib.Omega.{arith}
use mathlib.Core.List.{List}
use lib.ListN.{take, length-take}
use Rattle.finite.specs.Decimal.{decimal, spaced}
use Rattle.finite.specs.Writing.{Wrote}
use Rattle.finite.proofs.Decimals.{decimal-short, decimal-short-32, decimal-within}
use Rattle.finite.proofs.Writing.{reach}

-- a writer that wrote from n on stands at z
module _ (o o' : List ℕ) (n z : ℕ) where
  pub bytes-reach : (k : ℕ) (t : List ℕ) → Wrote o o' n z (take k t) → z ≤ n + k
  bytes-reach k t = reach o o' n z (take k t) k (omega (arith, length-take k t))

  pub decimal-reach : (v : ℕ) → Wrote o o' n z (decimal v) → z ≤ n + 20
  decimal-reach v = reach o o' n z (decimal v) 20 (decimal-short v)

  pub decimal-reach-32 : (v : ℕ) → v < 2 ^ 32 → Wrote o o' n z (decimal v) → z ≤ n + 10
  decimal-reach-32 v b = reach o o' n z (decimal v) 10 (decimal-short-32 v b)

  pub spaced-reach : (v : ℕ) → Wrote o o' n z (spaced v) → z ≤ n + 21
  spaced-reach v = reach o o' n z (spaced v) 21 (omega (arith, decimal-short v))

  pub spaced-reach-32 : (v : ℕ) → v < 2 ^ 32 → Wrote o o' n z (spaced v) → z ≤ n + 11
  spaced-reach-32 v b = reach o o' n z (spaced v) 11 (omega (arith, decimal-short-32 v b))

  -- a number of at most k + 1 digits
  pub spaced-reach-by : (k v : ℕ) → v < 10 ^ suc k → Wrote o o' n z (spaced v) → z ≤ n + (k + 2)
  spaced-reach-by k v b = reach o o' n z (spaced v) (k + 2) (omega (arith, decimal-within k v b))
