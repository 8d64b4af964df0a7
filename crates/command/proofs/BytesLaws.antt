-- Parts of a script, and its numbers: a u32's four bytes are that u32, and four bytes are those of the u32 that they are read as. Assumes nothing.
use Prim.Native.Nat.{ℕ, zero, suc, ◌+◌, ◌*◌, ◌/◌, ◌%◌, ◌≤◌, ◌<◌}
use native.Mathlib.Nat.{div-div-eq-div-mul, div-add-mod}
use native.Mathlib.Numerals.{add-one, add-two, add-three}
use native.Mathlib.Omega.{arith}
use mathlib.Core.Path.{◌≡◌, sym, ap, ◌∙◌}
use mathlib.Core.Bool.{true}
use mathlib.Core.List.{List, [], ◌∷◌, ◌++◌}
use lib.ListN.{length, set, take, drop, length-drop}
use lib.Seq.{sets, take-add, drop-drop, get_or-take, get_or-drop, length-take-le}
use Rattle.finite.specs.Finite.{tab, collect}
use Rattle.finite.proofs.Tables.{tab-of}
use Rattle.command.specs.Bytes.{byte_at, u32_at, u32_bytes}

-- ---- parts of a list: w elements from place i on

pub part-add : (s : List ℕ) (i v w : ℕ) → take (v + w) (drop i s) ≡ take v (drop i s) ++ take w (drop (i + v) s)
part-add s i v w = take-add v w (drop i s) ∙ ap (λ (l : List ℕ). take v (drop i s) ++ take w l) (drop-drop v i s)

-- element by element
pub part-tab : (s : List ℕ) (i w : ℕ) → i + w ≤ length s → take w (drop i s) ≡ tab w (λ j. byte_at s (i + j))
part-tab s i w h =
    tab-of 0 w (λ j. byte_at s (i + j)) (take w (drop i s)) (length-take-le w (drop i s) (let e = length-drop i s in omega arith))
    (λ j l. get_or-take w (drop i s) j 0 l ∙ get_or-drop i s j 0)

-- ---- four bytes and their number

module _ (a b c d : ℕ) (la : a < 256) (lb : b < 256) (lc : c < 256) (ld : d < 256) where
  first : (a + 256 * b + 65536 * c + 16777216 * d) % 256 ≡ a
  first = omega arith

  second : (a + 256 * b + 65536 * c + 16777216 * d) / 256 % 256 ≡ b
  second = omega arith

  third : (a + 256 * b + 65536 * c + 16777216 * d) / 65536 % 256 ≡ c
  third = omega arith

  fourth : (a + 256 * b + 65536 * c + 16777216 * d) / 16777216 % 256 ≡ d
  fourth = omega arith

  pub bytes_back : u32_bytes (a + 256 * b + 65536 * c + 16777216 * d) ≡ a ∷ b ∷ c ∷ d ∷ []
  unfolding u32_bytes
  bytes_back = rw (first, second, third, fourth)

number-back : (v a p b q c r d t : ℕ) → v < 4294967296 → 256 * p + a ≡ v → 256 * q + b ≡ p → 256 * r + c ≡ q → 256 * t + d ≡ r
    → a + 256 * b + 65536 * c + 16777216 * d ≡ v
number-back v a p b q c r d t h e₁ e₂ e₃ e₄ = omega arith

pub u32-back : (v : ℕ) → v < 4294967296 → v % 256 + 256 * (v / 256 % 256) + 65536 * (v / 65536 % 256) + 16777216 * (v / 16777216 % 256) ≡ v
u32-back v h =
    number-back v (v % 256) (v / 256) (v / 256 % 256) (v / 65536) (v / 65536 % 256) (v / 16777216) (v / 16777216 % 256) (v / 16777216 / 256) h (div-add-mod v 256)
    (ap (λ (q : ℕ). 256 * q + v / 256 % 256) (sym (div-div-eq-div-mul v 256 256)) ∙ div-add-mod (v / 256) 256)
    (ap (λ (q : ℕ). 256 * q + v / 65536 % 256) (sym (div-div-eq-div-mul v 65536 256)) ∙ div-add-mod (v / 65536) 256)
    (div-add-mod (v / 16777216) 256)

-- ---- the same, in a script

-- a u32 that stands at place i of a script of bytes is written as it stands there
pub u32-part : (s : List ℕ) (i : ℕ) → ((j : ℕ) → byte_at s j < 256) → i + 4 ≤ length s → u32_bytes (u32_at s i) ≡ take 4 (drop i s)
unfolding u32_at tab
u32-part s i small h =
    let z : i + 0 ≡ i = omega arith in
    bytes_back (byte_at s i) (byte_at s (i + 1)) (byte_at s (i + 2)) (byte_at s (i + 3)) (small _) (small _) (small _) (small _) ∙
    ap (λ (k : ℕ). byte_at s k ∷ byte_at s (i + 1) ∷ byte_at s (i + 2) ∷ byte_at s (i + 3) ∷ []) (sym z) ∙ sym (part-tab s i 4 h)

-- n numbers that stand one behind the other
pub parts-collected : (s : List ℕ) (i w n : ℕ) → collect n (λ _. true) (λ c. take w (drop (i + w * c) s)) ≡ take (w * n) (drop i s)
unfolding collect
parts-collected s i w zero = let e : w * 0 ≡ 0 = omega arith in ap (λ (k : ℕ). take k (drop i s)) (sym e)
parts-collected s i w (suc n) =
    let e : w * n + w ≡ w * suc n = omega arith in
    ap (λ (l : List ℕ). l ++ take w (drop (i + w * n) s)) (parts-collected s i w n) ∙ sym (part-add s i (w * n) w) ∙ ap (λ (k : ℕ). take k (drop i s)) e

-- a u32 that is written at place i of a script is read there
pub u32-written : (s : List ℕ) (i v : ℕ) → v < 4294967296 → byte_at s i ≡ v % 256 → byte_at s (i + 1) ≡ v / 256 % 256
    → byte_at s (i + 2) ≡ v / 65536 % 256 → byte_at s (i + 3) ≡ v / 16777216 % 256 → u32_at s i ≡ v
unfolding u32_at
u32-written s i v h a b c d = rw (a, b, c, d) (u32-back v h)

-- the four bytes of a number, stored in a row
pub stored-u32 : (l : List ℕ) (i v : ℕ)
    → set (set (set (set l i (v % 256)) (i + 1) (v / 256 % 256)) (i + 2) (v / 65536 % 256)) (i + 3) (v / 16777216 % 256) ≡ sets l i (u32_bytes v)
unfolding u32_bytes
stored-u32 l i v = rw (add-one i, add-two i, add-three i)
