-- A search by halves: its turns, where the test holds in the middle, and where it fails there. Assumes nothing.
use Prim.Native.Nat.{ℕ, ◌+◌, ◌≤◌, ◌<◌}
use native.Mathlib.Omega.{arith}
use mathlib.Core.Path.{◌≡◌, refl}
use mathlib.Core.Bool.{Bool, true, false}
use Rattle.finite.proofs.Bools.{clash}
use Rattle.catalog.specs.Halving.{Falling, Halved}

module _ (from to : ℕ) (p : ℕ → Bool) (a e k : ℕ) (f : Falling from to p) (s : Halved from to p a e) (u : a ≤ k) (v : k < e) where
  pub halved-right : p k ≡ true → Halved from to p (k + 1) e
  halved-right h =
      record { start = omega (arith, s.start); order = omega arith; end = s.end; holds = λ i b c. f i k b (omega arith) (omega (arith, s.end)) h; fails = s.fails }

  pub halved-left : p k ≡ false → Halved from to p a k
  halved-left h = record { start = s.start; order = u; end = omega (arith, s.end); holds = s.holds; fails = λ i b c. go i b c (p i) refl }
    where
      go : (i : ℕ) → k ≤ i → i < to → (q : Bool) → p i ≡ q → p i ≡ false
      go i b c false w = w
      go i b c true w = clash (f k i (omega (arith, s.start)) b c w) h
