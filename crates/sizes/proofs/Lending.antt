-- What is answered and written, by how much is lent: all of it where so much is lent, and cause 11 where less is. Assumes nothing.
use Prim.Native.Nat.{ℕ, ◌≤◌, ◌<◌}
use native.Mathlib.Omega.{arith}
use mathlib.Core.Path.{◌≡◌, sym, ap, ◌∙◌}
use mathlib.Core.List.{List, []}
use lib.ListN.{length}
use Rattle.model.specs.Answers.{Answer, refused}

-- at most m words or bytes are written, and they are `whole` where they are lent
pub record Lends (m : ℕ) (answer : ℕ → Answer) (out : ℕ → List ℕ) : Type 0 where
  pub whole : List ℕ
  pub most : length whole ≤ m
  pub result : Answer
  pub enough : (room : ℕ) → length whole ≤ room → (answer room ≡ result) × (out room ≡ whole)
  pub short : (room : ℕ) → room < length whole → answer room ≡ refused 11

-- nothing is written, and the answer is the same whatever is lent
pub lends_none : (m : ℕ) (answer : ℕ → Answer) (out : ℕ → List ℕ) (a : Answer) → ((room : ℕ) → (answer room ≡ a) × (out room ≡ [])) → Lends m answer out
lends_none m answer out a h =
    record { whole = []; most = omega arith; result = a; enough = λ room l. h room; short = λ room l. absurd (omega arith) }

-- n is as much as can be written, or more
module _ (m : ℕ) (answer : ℕ → Answer) (out : ℕ → List ℕ) (l : Lends m answer out) (n : ℕ) (ample : m ≤ n) where
  at-ample : (answer n ≡ l.result) × (out n ≡ l.whole)
  at-ample = l.enough n (omega (arith, l.most))

  pub lends-enough : (room : ℕ) → length (out n) ≤ room → (answer room ≡ answer n) × (out room ≡ out n)
  lends-enough room h =
      let k = l.enough room (omega (arith, ap length at-ample.1)) in
      (k.0 ∙ sym at-ample.0, k.1 ∙ sym at-ample.1)

  pub lends-needed : (room : ℕ) → room < length (out n) → answer room ≡ refused 11
  lends-needed room h = l.short room (omega (arith, ap length at-ample.1))
