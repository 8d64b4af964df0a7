-- Bits and powers of two, as the code shifts them. Assumes nothing.
use Prim.Native.Nat.{ℕ, ◌*◌, ◌%◌, ◌^◌, ◌≤◌, ◌<◌}
use native.Mathlib.Nat.{one-mul, div-eq_of_lt}
use native.Mathlib.Omega.{arith}
use mathlib.Core.Path.{◌≡◌, sym, ap, ◌∙◌}
use mathlib.Core.Bool.{false}
use lib.Dec.{eqb}
use lib.Pow.{pow_mono, shl_exact}
use Rattle.state.specs.Meaning.{bit}

-- 1 shifted, in sixteen bits
pub power : (k : ℕ) → k ≤ 8 → 1 * 2 ^ k % 65536 ≡ 2 ^ k
power k h = shl_exact 1 k 16 (omega arith) (omega arith) ∙ one-mul (2 ^ k)

-- a byte has no bit past the eighth
pub bit_past : (u i : ℕ) → u < 256 → 8 ≤ i → false ≡ bit u i
unfolding bit
bit_past u i h l = ap (λ (n : ℕ). eqb (n % 2) 1) (sym (div-eq_of_lt {n = u} {m = 2 ^ i} (omega (arith, pow_mono l))))
