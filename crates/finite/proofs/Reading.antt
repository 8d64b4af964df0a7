-- A number in decimal, with something behind it that begins with no digit, can be read back. Assumes nothing.
use Prim.Native.Nat.{ℕ, zero, suc, ◌+◌, ◌-◌, ◌*◌, ◌/◌, ◌%◌, ◌^◌, ◌<◌}
use native.Mathlib.Nat.{pow-suc, div-lt_iff_lt-mul}
use native.Mathlib.Omega.{arith}
use mathlib.Core.Path.{◌≡◌, refl, sym, ap, ◌∙◌}
use mathlib.Core.Logic.{◌⊎◌, inl, inr, ⊎_elim}
use mathlib.Core.Bool.{Bool, true, false, cond, ◌&&◌}
use mathlib.Core.List.{List, [], ◌∷◌, ◌++◌}
use borrow.Author.Tests.{ltb-true, le-leb}
use lib.Dec.{leb, ltb}
use Rattle.finite.specs.Decimal.{decimal_by, decimal}
use Rattle.finite.proofs.Bools.{dec, both, cond-true}

is_digit : ℕ → Bool
is_digit b = leb 48 b && leb b 57

-- the number that digits stand for, behind a
value : ℕ → List ℕ → ℕ
value a [] = a
value a (b ∷ bs) = value (10 * a + (b - 48)) bs

value-behind : (a : ℕ) (xs : List ℕ) (b : ℕ) → value a (xs ++ (b ∷ [])) ≡ 10 * value a xs + (b - 48)
unfolding value
value-behind a [] b = refl
value-behind a (x ∷ xs) b = value-behind (10 * a + (x - 48)) xs b

value-decimal : (f n : ℕ) → n < 10 ^ f → value 0 (decimal_by f n) ≡ n
unfolding decimal_by value
value-decimal zero n h = omega arith
value-decimal (suc f) n h = ⊎_elim
    (λ (t : ltb n 10 ≡ true). rw t (omega arith))
    (λ (t : ltb n 10 ≡ false). rw t (value-behind 0 (decimal_by f (n / 10)) (48 + n % 10) ∙
    (let e = value-decimal f (n / 10) ((div-lt_iff_lt-mul {k = 10} {x = n} {y = 10 ^ f} (omega arith)).1 (rw pow-suc at h)) in omega arith)))
    (dec (ltb n 10))

-- only digits
data Digits : List ℕ → Type 0 where
  none : Digits []
  more : {b : ℕ} {bs : List ℕ} → is_digit b ≡ true → Digits bs → Digits (b ∷ bs)

digits-behind : {xs : List ℕ} (b : ℕ) → Digits xs → is_digit b ≡ true → Digits (xs ++ (b ∷ []))
digits-behind b none e = more e none
digits-behind b (more h d) e = more h (digits-behind b d e)

decimal-digits : (f n : ℕ) → Digits (decimal_by f n)
unfolding decimal_by is_digit
decimal-digits zero n = none
decimal-digits (suc f) n = go (dec (ltb n 10)) (decimal-digits f (n / 10))
  where
    digit : (d : ℕ) → d < 10 → leb 48 (48 + d) && leb (48 + d) 57 ≡ true
    digit d l = both (le-leb 48 (48 + d) (omega arith)) (le-leb (48 + d) 57 (omega arith))

    go : (ltb n 10 ≡ true) ⊎ (ltb n 10 ≡ false) → Digits (decimal_by f (n / 10)) → Digits (cond (ltb n 10) ((48 + n) ∷ []) (decimal_by f (n / 10) ++ ((48 + n % 10) ∷ [])))
    go (inl t) ih = rw t (more (digit n (ltb-true n 10 t)) none)
    go (inr t) ih = rw t (digits-behind (48 + n % 10) ih (digit (n % 10) (omega arith)))

-- the digits at the front, and what is behind them
front : List ℕ → List ℕ
front [] = []
front (b ∷ bs) = cond (is_digit b) (b ∷ front bs) []

behind : List ℕ → List ℕ
behind [] = []
behind (b ∷ bs) = cond (is_digit b) (behind bs) (b ∷ bs)

-- nothing, or no digit first
pub record Stops (xs : List ℕ) : Type 0 where
  clear : front xs ≡ []
  whole : behind xs ≡ xs

pub stops_end : Stops []
unfolding front behind
stops_end = record { clear = refl; whole = refl }

pub stops-space : (xs : List ℕ) → Stops (32 ∷ xs)
unfolding front behind is_digit
stops-space xs = record { clear = refl; whole = refl }

front-is : {ds : List ℕ} (xs : List ℕ) → Digits ds → Stops xs → front (ds ++ xs) ≡ ds
unfolding front
front-is xs none s = s.clear
front-is xs (more {b = b} {bs = bs} e d) s = cond-true (is_digit b) (b ∷ front (bs ++ xs)) [] e ∙ ap (λ (ys : List ℕ). b ∷ ys) (front-is xs d s)

behind-is : {ds : List ℕ} (xs : List ℕ) → Digits ds → Stops xs → behind (ds ++ xs) ≡ xs
unfolding behind
behind-is xs none s = s.whole
behind-is xs (more {b = b} {bs = bs} e d) s = cond-true (is_digit b) (behind (bs ++ xs)) (b ∷ bs ++ xs) e ∙ behind-is xs d s

-- two numbers with something behind them that are one text are one number, and so is what is behind them
pub decimal-once : (n m : ℕ) (xs ys : List ℕ) → n < 2 ^ 64 → m < 2 ^ 64 → Stops xs → Stops ys → decimal n ++ xs ≡ decimal m ++ ys → (n ≡ m) × (xs ≡ ys)
decimal-once n m xs ys a b s t e =
    let p = sym (front-is xs (decimal-digits 20 n) s) ∙ ap front e ∙ front-is ys (decimal-digits 20 m) t in (
      sym (value-decimal 20 n (omega arith)) ∙ ap (value 0) p ∙ value-decimal 20 m (omega arith),
      sym (behind-is xs (decimal-digits 20 n) s) ∙ ap behind e ∙ behind-is ys (decimal-digits 20 m) t,
    )
