-- What `array::from_fn` makes is a table. Assumes nothing.
use Prim.Native.Nat.{ℕ, zero, suc, ◌+◌, ◌≤◌, ◌<◌}
use native.Mathlib.Decide.{dec_lt}
use native.Mathlib.Omega.{arith}
use mathlib.Core.Path.{◌≡◌, refl, subst, ◌∙◌}
use mathlib.Core.List.{List}
use Rattle.std.specs.Array.{IsFromFnResult, IsFromFnResultFrom}
use Rattle.std.specs.Fn.{Called}
use denote.Param.Members.{Mut}
use lib.ListN.{get_or}
use Rattle.finite.specs.Finite.{tab}
use Rattle.finite.proofs.Tables.{tab-of}

module _ {F B : Type 0} (g : Mut F (ℕ × Unit {0}) B) (e : B) (m : ℕ) (h : ℕ → B) (f : F) (ys : List B)
    (k : (i : ℕ) (y : B) (q : F) → i < m → Called g f (i, tt) y q → (q ≡ f) × (y ≡ h i)) where
  made-at : (n i : ℕ) → i + n ≤ m → (p : F) → p ≡ f → IsFromFnResultFrom g p ys i n → (j : ℕ) → i ≤ j → j < i + n → get_or ys j e ≡ h j
  made-at zero i o p w r j a b = absurd (omega arith)
  made-at (suc n) i o p w r j a b =
      let one = k i r.1 r.0 (omega arith) (subst (λ (x : F). Called g x (i, tt) r.1 r.0) w r.3) in
      go one.1 (made-at n (i + 1) (omega arith) r.0 one.0 r.4) (dec_lt i j)
    where
      go : r.1 ≡ h i → ((m : ℕ) → i + 1 ≤ m → m < i + 1 + n → get_or ys m e ≡ h m) → Dec (i < j) → get_or ys j e ≡ h j
      go y later (yes l) = later j (omega arith) (omega arith)
      go y later (no l) = let q : i ≡ j = omega arith in subst (λ (x : ℕ). get_or ys x e ≡ h x) q (r.2.1 e ∙ y)

-- by the closure's calls from f on, which leave it as it was
pub tab_from-fn : {F B : Type 0} {g : Mut F (ℕ × Unit {0}) B} {f : F} {ys : List B} {n : ℕ} (e : B) (h : ℕ → B) → IsFromFnResult g f ys n →
    ((i : ℕ) (y : B) (q : F) → i < n → Called g f (i, tt) y q → (q ≡ f) × (y ≡ h i)) → ys ≡ tab n h
tab_from-fn {F} {B} {g} {f} {ys} {n} e h r k = tab-of e n h ys r.long (λ i l. made-at g e n h f ys k n 0 (omega arith) f refl r.each i (omega arith) (omega arith))
