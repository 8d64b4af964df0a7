-- Tests as Booleans, and what a test that passes or fails says. Assumes nothing.
use Prim.Native.Nat.{ℕ, ◌≤◌, ◌<◌, min, max}
use native.Mathlib.Nat.{eq-or-lt_of_le, le_of_lt, min-eq_left, min-eq_right, max-eq_left, max-eq_right}
use mathlib.Core.Path.{◌≡◌, refl, sym, ap, ◌∙◌}
use mathlib.Core.Logic.{◌⊎◌, inl, inr, ⊎_elim, ⊎_map}
use mathlib.Core.Bool.{Bool, true, false, not, cond, ◌&&◌, ◌||◌, true≢false}
use borrow.Author.Tests.{eq-eqb, ne_eqb, eqb-true, eqb-false, leb-true, leb-false, ltb-true, ltb-false}
use lib.Dec.{eqb, leb, ltb}

pub dec : (b : Bool) → (b ≡ true) ⊎ (b ≡ false)
dec true = inl refl
dec false = inr refl

pub clash : {A : Type 0} {b : Bool} → b ≡ true → b ≡ false → A
clash p q = absurd (true≢false (sym p ∙ q))

-- a test that cannot pass fails
pub refute : (b : Bool) → (b ≡ true → ⊥) → b ≡ false
refute true h = absurd (h refl)
refute false h = refl

-- two tests that pass alike
pub bool-ext : (a b : Bool) → (a ≡ true → b ≡ true) → (b ≡ true → a ≡ true) → a ≡ b
bool-ext true b f g = sym (f refl)
bool-ext false b f g = sym (refute b (λ e. clash (g e) refl))

pub same_number : (a b : ℕ) → (a ≡ b) ⊎ (a ≡ b → ⊥)
same_number a b = ⊎_map (eqb-true a b) (eqb-false a b) (dec (eqb a b))

pub order : (i n : ℕ) → (i < n) ⊎ ((i ≡ n) ⊎ (n < i))
order i n = ⊎_elim (λ (e : ltb i n ≡ true). inl (ltb-true i n e)) (λ (e : ltb i n ≡ false). inr (later (eq-or-lt_of_le (ltb-false i n e)))) (dec (ltb i n))
  where
    later : (n ≡ i) ⊎ (n < i) → (i ≡ n) ⊎ (n < i)
    later (inl e) = inl (sym e)
    later (inr l) = inr l

pub or_cases : (a b : Bool) → a || b ≡ true → (a ≡ true) ⊎ (b ≡ true)
or_cases true b e = inl refl
or_cases false b e = inr e

pub both : {a b : Bool} → a ≡ true → b ≡ true → a && b ≡ true
both {a} {b} p q = ap (λ (x : Bool). x && b) p ∙ q

-- ---- along a conjunction of tests, as early returns walk it

-- the first test passed: the rest decides
pub and-go : (a b : Bool) {r : Bool} → a ≡ true → r ≡ b → r ≡ a && b
and-go true b h e = e
and-go false b h e = clash refl (sym h)

-- the first test failed
pub and-stop : (a b : Bool) → a ≡ false → false ≡ a && b
and-stop true b h = clash refl h
and-stop false b h = refl

pub and_left : (a b : Bool) → a ≡ false → a && b ≡ false
and_left a b h = sym (and-stop a b h)

pub and_right : (a b : Bool) → b ≡ false → a && b ≡ false
and_right true b h = h
and_right false b h = refl

pub or_left : (a b : Bool) → a ≡ true → true ≡ a || b
or_left true b h = refl
or_left false b h = clash refl (sym h)

pub or-go : (a b : Bool) {r : Bool} → a ≡ false → r ≡ b → r ≡ a || b
or-go true b h e = clash refl h
or-go false b h e = e

pub ne-not : (a b : ℕ) → (a ≡ b → ⊥) → not (eqb a b) ≡ true
ne-not a b h = ap not (ne_eqb a b h)

pub eq-not : (a b : ℕ) → a ≡ b → not (eqb a b) ≡ false
eq-not a b h = ap not (eq-eqb a b h)

-- ---- choosing

pub cond-true : {A : Type 0} (b : Bool) (x y : A) → b ≡ true → cond b x y ≡ x
cond-true b x y h = ap (λ (c : Bool). cond c x y) h

pub cond-false : {A : Type 0} (b : Bool) (x y : A) → b ≡ false → cond b x y ≡ y
cond-false b x y h = ap (λ (c : Bool). cond c x y) h

-- what holds of both results holds of the chosen one
pub cond-case : {A : Type 0} (P : A → Type 0) (b : Bool) (x y : A) → (b ≡ true → P x) → (b ≡ false → P y) → P (cond b x y)
cond-case P true x y f g = f refl
cond-case P false x y f g = g refl

-- ---- a disjunction

pub or-none : (a b : Bool) → b ≡ false → a || b ≡ a
or-none true b e = refl
or-none false b e = e

pub or-second : (a b : Bool) → b ≡ true → a || b ≡ true
or-second true b e = refl
or-second false b e = e

pub or-and : (a b c : Bool) → a && (b || c) ≡ (a && b) || (a && c)
or-and true b c = refl
or-and false b c = refl

-- ---- the lower and the higher of two numbers

pub min_cases : (a b : ℕ) → ((min a b ≡ a) × (a ≤ b)) ⊎ ((min a b ≡ b) × (b ≤ a))
min_cases a b =
    ⊎_elim (λ (e : leb a b ≡ true). let h = leb-true a b e in inl (min-eq_left h, h))
    (λ (e : leb a b ≡ false). let h : b ≤ a = le_of_lt (leb-false a b e) in inr (min-eq_right h, h)) (dec (leb a b))

pub max_cases : (a b : ℕ) → ((max a b ≡ b) × (a ≤ b)) ⊎ ((max a b ≡ a) × (b ≤ a))
max_cases a b =
    ⊎_elim (λ (e : leb a b ≡ true). let h = leb-true a b e in inl (max-eq_right h, h))
    (λ (e : leb a b ≡ false). let h : b ≤ a = le_of_lt (leb-false a b e) in inr (max-eq_left h, h)) (dec (leb a b))
