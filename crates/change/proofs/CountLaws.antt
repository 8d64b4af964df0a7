-- A level is 0 just if it isn't above 0. Assumes nothing.
use Prim.Native.Nat.{ℕ, zero, suc}
use native.Mathlib.Omega.{arith}
use mathlib.Core.Path.{◌≡◌, refl, sym, ap, ◌∙◌}
use mathlib.Core.Bool.{not}
use borrow.Author.Tests.{lt-ltb, ne_eqb}
use lib.Dec.{eqb, ltb}

pub zero-not : (l : ℕ) → eqb l 0 ≡ not (ltb 0 l)
zero-not zero = refl
zero-not (suc l) = ne_eqb (suc l) 0 (λ e. omega arith) ∙ sym (ap not (lt-ltb 0 (suc l) (omega arith)))
