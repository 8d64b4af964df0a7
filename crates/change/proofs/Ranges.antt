-- What `any` and `find` answer over the numbers below n, where the closure's answers are known for these numbers alone. Assumes nothing.
use Prim.Native.Nat.{ℕ, ◌≤◌, ◌<◌}
use native.Mathlib.Omega.{arith}
use mathlib.Core.Path.{◌≡◌, sym, subst, ◌∙◌}
use mathlib.Core.Bool.{Bool, true, false}
use mathlib.Core.List.{List}
use lib.ListN.{length}
use denote.Param.Members.{Mut}
use Rattle.std.specs.Prelude.{Option, None, Some}
use Rattle.std.specs.Option.{MatchOption}
use Rattle.std.specs.Bool.{MatchBool}
use Rattle.std.specs.Fn.{Called}
use Rattle.std.specs.Iterator.{YieldsThen}
use Rattle.std.specs.List.{FoldsTo, AllWithin, HoldsAt, range_with_len}
use Rattle.std.proofs.lemmas.Iterator.{YieldsList, cases_from_any}
use Rattle.std.proofs.lemmas.List.FromFn.{length-range_with_len, get_or-range_with_len}
use Rattle.finite.specs.Finite.{any}
use Rattle.finite.proofs.Search.{any-true, any-refuted}

pub any_in-range-below : {S A F : Type 0} {steps : S → Option A → S → Type 0} {v : A → ℕ} {g : Mut F (A × Unit {0}) Bool} {s : S}
    (n : ℕ) (p : ℕ → Bool) (u : S) (f : F) (r : Bool)
    → (xs : List A) × (o : Option A) × (j : F) × YieldsThen steps s xs o u × FoldsTo (λ k x q. Called g k (x, tt) false q) f xs j
    × MatchOption o (r ≡ false) (λ x. (r ≡ true) × ((h : F) × Called g j (x, tt) true h))
    → YieldsList steps v s (range_with_len 0 n)
    → ((x : A) (b : Bool) (q : F) → Called g f (x, tt) b q → (q ≡ f) × (v x < n → b ≡ p (v x))) → r ≡ any n p
any_in-range-below n p u f r ran y h =
    go r (cases_from_any u f r (λ z. z < n → p z ≡ true) (λ z. z < n → p z ≡ false) ran y
    (λ x q k l. sym ((h x true q k).1 l)) (λ x q k. ((h x false q k).0, λ l. sym ((h x false q k).1 l))))
  where
    at : (P : ℕ → Type 0) (k : ℕ) → k < n → ((d : ℕ) → P (lib.ListN.get_or (range_with_len 0 n) k d)) → P k
    at P k l e = subst P (get_or-range_with_len 0 n k 0 l ∙ omega arith) (e 0)

    go : (b : Bool) → MatchBool b ((k : ℕ) × (k < length (range_with_len 0 n)) × HoldsAt (λ z. z < n → p z ≡ true) (range_with_len 0 n) k)
        (AllWithin (λ z. z < n → p z ≡ false) (range_with_len 0 n) 0 (length (range_with_len 0 n))) → b ≡ any n p
    go true w =
        let l : w.0 < n = omega (arith, w.1, length-range_with_len 0 n) in
        sym (any-true n p w.0 l (at (λ z. z < n → p z ≡ true) w.0 l w.2 l))
    go false w = sym (any-refuted n p (λ i l. at (λ z. z < n → p z ≡ false) i l (λ d. w i d (omega arith) (omega (arith, length-range_with_len 0 n))) l))

-- ... and `find`, where it is asked of the numbers from 0 on
pub found-below : (n : ℕ) (Yes No : ℕ → Type 0) (r : Option ℕ)
    → MatchOption r ((k : ℕ) → 0 ≤ k → k < n → No k) (λ i. (0 ≤ i) × (i < n) × Yes i × ((k : ℕ) → 0 ≤ k → k < i → No k))
    → MatchOption r ((k : ℕ) → k < n → No k) (λ i. (i < n) × Yes i × ((k : ℕ) → k < i → No k))
found-below n Yes No None w = λ k l. w k (omega arith) l
found-below n Yes No (Some i) w = (w.1, w.2, λ k l. w.3 k (omega arith) l)

pub none-matched : (P : Type 0) (Q : ℕ → Type 0) (r : Option ℕ) → r ≡ None → MatchOption r P Q → P
none-matched P Q r e w = subst (λ (o : Option ℕ). MatchOption o P Q) e w

pub some-matched : (P : Type 0) (Q : ℕ → Type 0) (r : Option ℕ) (i : ℕ) → r ≡ Some i → MatchOption r P Q → Q i
some-matched P Q r i e w = subst (λ (o : Option ℕ). MatchOption o P Q) e w
