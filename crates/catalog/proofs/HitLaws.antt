-- A walk can stand at the first row that passes. Assumes nothing.
use Prim.Native.Nat.{ℕ, ◌<◌}
use native.Mathlib.Decide.{dec_lt}
use native.Mathlib.Omega.{arith}
use mathlib.Core.Path.{◌≡◌, sym, subst}
use mathlib.Core.Bool.{Bool}
use Rattle.finite.specs.Finite.{first_from}
use Rattle.finite.proofs.First.{first-from, first_past}
use Rattle.catalog.specs.Hits.{Hit}

pub first-hit : (p : ℕ → Bool) (i r : ℕ) → r ≡ first_from 512 p i → Hit p r
first-hit p i r e = subst (Hit p) (sym e) (go (dec_lt i 512))
  where
    go : Dec (i < 512) → Hit p (first_from 512 p i)
    go (yes l) = let f = first-from 512 p i (omega arith) in record { bound = f.bound; here = f.here }
    go (no l) = subst (Hit p) (sym (first_past 512 p i (omega arith))) (record { bound = omega arith; here = λ h. absurd (omega arith) })
