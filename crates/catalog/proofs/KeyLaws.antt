-- Keys of values: a key gives back its value, so no two values that can be stored share one; and key 0 is the blank's. Assumes nothing.
use Prim.Native.Nat.{ℕ, ◌+◌, ◌*◌, ◌/◌, ◌%◌, ◌<◌}
use native.Mathlib.Omega.{arith}
use mathlib.Core.Path.{◌≡◌, ap, ◌∙◌}
use mathlib.Core.Bool.{true}
use borrow.Author.Tests.{eq-eqb}
use Rattle.finite.proofs.Bools.{both}
use Rattle.model.specs.Cell.{Cell, is_blank}
use Rattle.catalog.specs.Catalog.{key_of, value_of}

-- each number is the key of a value
pub key-value : (x : ℕ) → key_of (value_of x) ≡ x
unfolding key_of value_of
key-value x = omega arith

-- the key of a value that can be stored gives the value back
pub value-key : (v : Cell) → v.issue < 256 → value_of (key_of v) ≡ v
unfolding key_of value_of
value-key v l =
    let n : (256 * v.number + v.issue) / 256 ≡ v.number = omega arith in
    let m : (256 * v.number + v.issue) % 256 ≡ v.issue = omega arith in
    λ i. record { number = n i; issue = m i }

-- ... as `key_of` states it
pub value-is : (v : Cell) (x : ℕ) → (x ≡ key_of v) × (v.issue < 256) → value_of x ≡ v
value-is v x k = ap value_of k.0 ∙ value-key v k.1

-- the value with key 0 is blank
pub value_none : (x : ℕ) → x ≡ 0 → is_blank (value_of x) ≡ true
unfolding value_of is_blank
value_none x e = both (eq-eqb (x / 256) 0 (omega arith)) (eq-eqb (x % 256) 0 (omega arith))
