-- What iterators over the numbers below n answer, in the words of `specs/Finite.antt`: `(0..n).all(..)` is `all n`, `.any(..)` is `any n`, `.filter(..).count()` is
-- `count n`, as is the sum of a 1 for each that passes, and `(i..n).find(..)`, with n where there is none, is `first_from n` at i. The first two and the last take n,
-- the test, `_` three times, the call's clause `ran`, where the numbers come from, and what the closure answers. Assumes nothing.
use Prim.Native.Nat.{ℕ, zero, suc, ◌+◌, ◌-◌, ◌<◌}
use native.Mathlib.Omega.{arith}
use mathlib.Core.Path.{◌≡◌, refl, sym, ap, ◌∙◌}
use mathlib.Core.Bool.{Bool, true, false, cond, ◌&&◌, ◌||◌, or-false, or_assoc, and_assoc, and-true}
use mathlib.Core.List.{List, [], ◌∷◌, map}
use Rattle.std.specs.Prelude.{Option, None, Some, ⊤}
use Rattle.std.specs.Option.{MatchOption, option_map, unwrap_or}
use Rattle.std.proofs.lemmas.Iterator.{YieldsList}
use Rattle.std.proofs.lemmas.Iterator.Search.{all_from_yields_List, any_from_yields_List, find_from_yields_List}
use Rattle.std.proofs.lemmas.Iterator.Consumers.{count_from_yields_List, sum_by_from_yields_List, fits_by_from_yields_list}
use Rattle.std.specs.Fn.{Called, CalledAt}
use Rattle.std.specs.Iterator.{YieldsThen, Drains}
use Rattle.std.specs.Iterator.Runs.{EachRunFrom}
use Rattle.std.specs.List.{FoldsTo, list_all, list_any, range_with_len, find, filter, fold, sum_by}
use denote.Param.Members.{Mut}
use denote.Ref.{Bor}
use lib.ListN.{length}
use Rattle.finite.specs.Finite.{all, any, count, first_of, first_from}
use Rattle.finite.proofs.Counting.{count-le}

list_all-last : (p : ℕ → Bool) (a n : ℕ) → list_all p (range_with_len a (suc n)) ≡ list_all p (range_with_len a n) && p (a + n)
list_all-last p a zero = and-true (p a) ∙ ap p (omega arith)
list_all-last p a (suc n) = ap (λ (b : Bool). p a && b) (list_all-last p (a + 1) n)
    ∙ sym (and_assoc (p a) (list_all p (range_with_len (a + 1) n)) (p (a + 1 + n)))
    ∙ ap (λ (k : ℕ). (p a && list_all p (range_with_len (a + 1) n)) && p k) (omega arith)

list_any-last : (p : ℕ → Bool) (a n : ℕ) → list_any p (range_with_len a (suc n)) ≡ list_any p (range_with_len a n) || p (a + n)
list_any-last p a zero = or-false (p a) ∙ ap p (omega arith)
list_any-last p a (suc n) = ap (λ (b : Bool). p a || b) (list_any-last p (a + 1) n)
    ∙ sym (or_assoc (p a) (list_any p (range_with_len (a + 1) n)) (p (a + 1 + n)))
    ∙ ap (λ (k : ℕ). (p a || list_any p (range_with_len (a + 1) n)) || p k) (omega arith)

list_all-range : (n : ℕ) (p : ℕ → Bool) → list_all p (range_with_len 0 n) ≡ all n p
unfolding all
list_all-range zero p = refl
list_all-range (suc n) p = list_all-last p 0 n ∙ ap (λ (k : ℕ). list_all p (range_with_len 0 n) && p k) (omega arith) ∙ ap (λ (b : Bool). b && p n) (list_all-range n p)

list_any-range : (n : ℕ) (p : ℕ → Bool) → list_any p (range_with_len 0 n) ≡ any n p
unfolding any
list_any-range zero p = refl
list_any-range (suc n) p = list_any-last p 0 n ∙ ap (λ (k : ℕ). list_any p (range_with_len 0 n) || p k) (omega arith) ∙ ap (λ (b : Bool). b || p n) (list_any-range n p)

filter-last : (p : ℕ → Bool) (a n : ℕ) → length (filter p (range_with_len a (suc n))) ≡ length (filter p (range_with_len a n)) + cond (p (a + n)) 1 0
filter-last p a zero = go (p a) ∙ ap (λ (k : ℕ). 0 + cond {A = ℕ} (p k) 1 0) e
  where
    e : a ≡ a + 0
    e = omega arith

    go : (b : Bool) → length (cond b (a ∷ []) []) ≡ 0 + cond {A = ℕ} b 1 0
    go true = refl
    go false = refl
filter-last p a (suc n) = go (p a) (filter p (range_with_len (a + 1) (suc n))) (filter p (range_with_len (a + 1) n)) (cond (p (a + 1 + n)) 1 0) (filter-last p (a + 1) n)
    ∙ ap (λ (k : ℕ). length (cond (p a) (a ∷ filter p (range_with_len (a + 1) n)) (filter p (range_with_len (a + 1) n))) + cond (p k) 1 0) (omega arith)
  where
    go : (b : Bool) (xs ys : List ℕ) (m : ℕ) → length xs ≡ length ys + m → length (cond b (a ∷ xs) xs) ≡ length (cond b (a ∷ ys) ys) + m
    go true xs ys m e = omega (arith, e)
    go false xs ys m e = e

filter-range : (n : ℕ) (p : ℕ → Bool) → length (filter p (range_with_len 0 n)) ≡ count n p
unfolding count
filter-range zero p = refl
filter-range (suc n) p = filter-last p 0 n ∙ ap (λ (k : ℕ). length (filter p (range_with_len 0 n)) + cond (p k) 1 0) (omega arith)
    ∙ ap (λ (k : ℕ). k + cond (p n) 1 0) (filter-range n p)

fold-last : (h : ℕ → ℕ) (c a n : ℕ) → fold (λ s x. s + h x) c (range_with_len a (suc n)) ≡ fold (λ s x. s + h x) c (range_with_len a n) + h (a + n)
fold-last h c a zero = ap (λ (k : ℕ). c + h k) (omega arith)
fold-last h c a (suc n) = fold-last h (c + h a) (a + 1) n ∙ ap (λ (k : ℕ). fold (λ s x. s + h x) (c + h a) (range_with_len (a + 1) n) + h k) (omega arith)

sum-range : (n : ℕ) (p : ℕ → Bool) → sum_by (λ i. cond (p i) 1 0) (range_with_len 0 n) ≡ count n p
unfolding count
sum-range zero p = refl
sum-range (suc n) p = fold-last (λ i. cond (p i) 1 0) 0 0 n ∙ ap (λ (k : ℕ). sum_by (λ i. cond (p i) 1 0) (range_with_len 0 n) + cond (p k) 1 0) (omega arith)
    ∙ ap (λ (k : ℕ). k + cond (p n) 1 0) (sum-range n p)

find-range : (p : ℕ → Bool) (m n a : ℕ) → unwrap_or (find p (range_with_len a n)) m ≡ first_of m n p a
unfolding first_of
find-range p m zero a = refl
find-range p m (suc n) a = go (p a) (find p (range_with_len (a + 1) n)) (first_of m n p (suc a))
    (find-range p m n (a + 1) ∙ ap (first_of m n p) (omega arith))
  where
    go : (b : Bool) (r : Option ℕ) (x : ℕ) → unwrap_or r m ≡ x → unwrap_or (cond b (Some a) r) m ≡ cond b a x
    go true r x e = refl
    go false r x e = e

map-same : {A : Type 0} (v : A → ℕ) (r : Option A) (m : ℕ) (d : A) → v d ≡ m → unwrap_or (option_map v r) m ≡ v (unwrap_or r d)
map-same v None m d e = sym e
map-same v (Some x) m d e = refl

pub all_in-range : {S A F : Type 0} {steps : S → Option A → S → Type 0} {v : A → ℕ} {g : Mut F (A × Unit {0}) Bool} {s : S}
    (n : ℕ) (p : ℕ → Bool) (u : S) (f : F) (r : Bool)
    → (xs : List A) × (o : Option A) × (j : F) × YieldsThen steps s xs o u × FoldsTo (λ k x q. Called g k (x, tt) true q) f xs j
    × MatchOption o (r ≡ true) (λ x. (r ≡ false) × ((h : F) × Called g j (x, tt) false h))
    → YieldsList steps v s (range_with_len 0 n)
    → ((x : A) (b : Bool) (q : F) → Called g f (x, tt) b q → (q ≡ f) × (b ≡ p (v x))) → r ≡ all n p
all_in-range n p u f r ran y h = all_from_yields_List p u f r ran y h ∙ list_all-range n p

pub any_in-range : {S A F : Type 0} {steps : S → Option A → S → Type 0} {v : A → ℕ} {g : Mut F (A × Unit {0}) Bool} {s : S}
    (n : ℕ) (p : ℕ → Bool) (u : S) (f : F) (r : Bool)
    → (xs : List A) × (o : Option A) × (j : F) × YieldsThen steps s xs o u × FoldsTo (λ k x q. Called g k (x, tt) false q) f xs j
    × MatchOption o (r ≡ false) (λ x. (r ≡ true) × ((h : F) × Called g j (x, tt) true h))
    → YieldsList steps v s (range_with_len 0 n)
    → ((x : A) (b : Bool) (q : F) → Called g f (x, tt) b q → (q ≡ f) × (b ≡ p (v x))) → r ≡ any n p
any_in-range n p u f r ran y h = any_from_yields_List p u f r ran y h ∙ list_any-range n p

-- at a range, where an item is its number
pub first_in-range : {S F : Type 0} {steps : S → Option ℕ → S → Type 0} {g : Mut F (Bor ℕ × Unit {0}) Bool} {s : S}
    (n : ℕ) (p : ℕ → Bool) (i : ℕ) (u : S) (f : F) (r : Option ℕ)
    → (xs : List ℕ) × (j : F) × YieldsThen steps s xs r u × FoldsTo (λ k x q. CalledAt g k x false q) f xs j
    × MatchOption r (Unit {0}) (λ x. (h : F) × CalledAt g j x true h)
    → YieldsList steps (λ x. x) s (range_with_len i (n - i))
    → ((x : ℕ) (b : Bool) (q : F) → CalledAt g f x b q → (q ≡ f) × (b ≡ p x)) → unwrap_or r n ≡ first_from n p i
unfolding first_from
first_in-range n p i u f r ran y h = sym (map-same (λ x. x) r n n refl)
    ∙ ap (λ (o : Option ℕ). unwrap_or o n) (find_from_yields_List p u f r ran y h) ∙ find-range p n (n - i) i

-- what `count` answers, where `YieldsList-from_filter` says what it counts
pub count_in-range : {S A : Type 0} {steps : S → Option A → S → Type 0} {v : A → ℕ} (n : ℕ) (p : ℕ → Bool) (s : S) (r : ℕ)
    → (xs : List A) × Drains steps s xs × (r ≡ length xs) → YieldsList steps v s (filter p (range_with_len 0 n)) → r ≡ count n p
count_in-range n p s r ran y = count_from_yields_List s r ran y ∙ filter-range n p

-- what `sum` answers of a 1 for each number that passes, where `YieldsList-from_map` says so, and that it may be asked
module _ {S : Type 0} {steps : S → Option ℕ → S → Type 0} (n : ℕ) (p : ℕ → Bool) (s : S) (y : YieldsList steps (λ x. x) s (map (λ i. cond (p i) 1 0) (range_with_len 0 n))) where
  pub sum_in-range : (r : ℕ) → (xs : List ℕ) × (⊤ → Drains steps s xs) × (r ≡ fold (λ a x. a + x) 0 xs) → r ≡ count n p
  sum_in-range r ran = sum_by_from_yields_List _ _ s r ran y ∙ sum-range n p

  pub sum_fits-range : (top : ℕ) → n < top → EachRunFrom steps s (λ q. fold (λ a x. a + x) 0 q.items < top)
  sum_fits-range top l = fits_by_from_yields_list _ _ s top y (omega (arith, sum-range n p, count-le n p, l))
