-- All sets in order: the shortest first, those of one length one by one. Each rising list is among them, and the first that passes a test comes before every
-- other that does (02, Req 11). Assumes nothing.
use Prim.Native.Nat.{ℕ, zero, suc, ◌+◌, ◌≤◌, ◌<◌}
use native.Mathlib.Nat.{not-suc-le-zero}
use native.Mathlib.Omega.{arith}
use mathlib.Core.Path.{◌≡◌, refl, sym, ap, subst, ◌∙◌}
use mathlib.Core.Logic.{◌⊎◌, inl, inr, ⊎_elim}
use mathlib.Core.Bool.{Bool, true, false}
use mathlib.Core.List.Memᴰ
use mathlib.Core.List.{List, [], ◌∷◌, ◌++◌, map, Memᴰ}
use lib.ListN.{length, get_or}
use Rattle.finite.proofs.Bools.{dec, clash, order, cond-true, cond-false}
use Rattle.model.specs.Knot.{Rising, none, more, Before, lower, same, choices, in_order, first_that}

-- ---- lists in an order R

data Sorted {A : Type 0} (R : A → A → Type 0) : List A → Type 0 where
  nothing : Sorted R []
  item : {x : A} {xs : List A} → ((y : A) → Memᴰ y xs → R x y) → Sorted R xs → Sorted R (x ∷ xs)

sorted-append : {A : Type 0} {R : A → A → Type 0} {xs ys : List A} → Sorted R xs → Sorted R ys → ((x y : A) → Memᴰ x xs → Memᴰ y ys → R x y) → Sorted R (xs ++ ys)
sorted-append nothing t c = t
sorted-append (item {x = x} {xs = xs} h s) t c =
    item (λ y m. ⊎_elim (h y) (c x y (Memᴰ.head refl)) (Memᴰ.append_cases xs m)) (sorted-append s t (λ a y m. c a y (Memᴰ.tail m)))

sorted-by : {A : Type 0} {R Q : A → A → Type 0} {xs : List A} → Sorted R xs → ((x y : A) → Memᴰ x xs → Memᴰ y xs → R x y → Q x y) → Sorted Q xs
sorted-by nothing f = nothing
sorted-by (item {x = x} h s) f =
    item (λ y m. f x y (Memᴰ.head refl) (Memᴰ.tail m) (h y m)) (sorted-by s (λ a b m n. f a b (Memᴰ.tail m) (Memᴰ.tail n)))

-- the first that passes the test, where y does
pub record Found {A : Type 0} (R : A → A → Type 0) (p : A → Bool) (xs : List A) (y r : A) : Type 0 where
  pub among : Memᴰ r xs
  pub passes : p r ≡ true
  pub early : (r ≡ y) ⊎ R r y

first_found : {A : Type 0} {R : A → A → Type 0} {xs : List A} (p : A → Bool) (e y : A) → Sorted R xs → Memᴰ y xs → p y ≡ true → Found R p xs y (first_that p e xs)
unfolding first_that
first_found p e y nothing m t = absurd (Memᴰ.not-nil m)
first_found {R = R} p e y (item {x = x} {xs = xs} h s) m t = go (dec (p x)) (Memᴰ.cases_cons m) (λ n. first_found p e y s n t)
  where
    here : Found R p (x ∷ xs) y x → p x ≡ true → Found R p (x ∷ xs) y (first_that p e (x ∷ xs))
    here f q = subst (Found R p (x ∷ xs) y) (sym (cond-true (p x) x (first_that p e xs) q)) f

    go : (p x ≡ true) ⊎ (p x ≡ false) → (y ≡ x) ⊎ Memᴰ y xs → (Memᴰ y xs → Found R p xs y (first_that p e xs)) → Found R p (x ∷ xs) y (first_that p e (x ∷ xs))
    go (inl q) c ih = here (record { among = Memᴰ.head refl; passes = q; early = ⊎_elim (λ n. inl (sym n)) (λ n. inr (h y n)) c }) q
    go (inr q) (inl n) ih = clash t (ap p n ∙ q)
    go (inr q) (inr n) ih =
        let f = ih n in
        subst (Found R p (x ∷ xs) y) (sym (cond-false (p x) x (first_that p e xs) q)) (record { among = Memᴰ.tail f.among; passes = f.passes; early = f.early })

-- ---- rising lists

pub rising-from : {n i j : ℕ} {ks : List ℕ} → j ≤ i → Rising n i ks → Rising n j ks
rising-from h none = none
rising-from {i = i} {j = j} h (more k a b r) = let l : j ≤ k = omega arith in more k l b r

-- no longer than there are numbers
pub rising-short : {n i : ℕ} {ks : List ℕ} → Rising n i ks → i ≤ n → length ks + i ≤ n
rising-short none l = omega arith
rising-short (more k a b r) l = omega (arith, rising-short r b)

pub rising-at : {n i : ℕ} {ks : List ℕ} → Rising n i ks → (p : ℕ) → p < length ks → (i ≤ get_or ks p 0) × (get_or ks p 0 < n)
rising-at none p l = absurd (not-suc-le-zero l)
rising-at (more k a b r) zero l = (a, b)
rising-at (more k a b r) (suc p) l = let q = rising-at r p (omega arith) in (omega (arith, q.0), q.1)

-- ---- the lists of n of the m numbers from i on

choices-has : (n i m b : ℕ) {ks : List ℕ} → b ≡ i + m → Rising b i ks → length ks ≡ n → Memᴰ ks (choices n i m)
unfolding choices
choices-has zero i m b e none l = Memᴰ.head refl
choices-has zero i m b e (more k a c r) l = absurd (omega arith)
choices-has (suc n) i zero b e none l = absurd (omega arith)
choices-has (suc n) i zero b e (more k a c r) l = absurd (omega arith)
choices-has (suc n) i (suc m) b e none l = absurd (omega arith)
choices-has (suc n) i (suc m) b e (more {ks = ks} k a c r) l =
    ⊎_elim (λ (h : k < i). absurd (omega arith))
    (⊎_elim
    (λ (h : k ≡ i).
    Memᴰ.append_left (choices (suc n) (suc i) m)
    (subst (λ (x : ℕ). Memᴰ (x ∷ ks) (map (λ xs. i ∷ xs) (choices n (suc i) m))) (sym h)
    (Memᴰ.map (λ xs. i ∷ xs) (choices-has n (suc i) m b (omega arith) (rising-from {j = suc i} (omega arith) r) (omega arith)))))
    (λ (h : i < k). Memᴰ.append_right (map (λ xs. i ∷ xs) (choices n (suc i) m)) (choices-has (suc n) (suc i) m b (omega arith) (more k h c r) l)))
    (order k i)

pub record Chosen (n i b : ℕ) (ks : List ℕ) : Type 0 where
  pub rising : Rising b i ks
  pub long : length ks ≡ n

choices-are : (n i m b : ℕ) (ks : List ℕ) → b ≡ i + m → Memᴰ ks (choices n i m) → Chosen n i b ks
unfolding choices
choices-are zero i m b ks e h = subst (Chosen zero i b) (sym (Memᴰ.eq_of_singleton h)) (record { rising = none; long = refl })
choices-are (suc n) i zero b ks e h = absurd (Memᴰ.not-nil h)
choices-are (suc n) i (suc m) b ks e h =
    ⊎_elim
    (λ x.
    let f = Memᴰ.of_map (λ xs. i ∷ xs) (choices n (suc i) m) x in
    let c = choices-are n (suc i) m b f.0 (omega arith) f.1 in
    subst (Chosen (suc n) i b) f.2 (record { rising = more {i = i} i (omega arith) (omega arith) c.rising; long = ap suc c.long }))
    (λ x. let c = choices-are (suc n) (suc i) m b ks (omega arith) x in record { rising = rising-from {j = i} (omega arith) c.rising; long = c.long })
    (Memᴰ.append_cases (map (λ xs. i ∷ xs) (choices n (suc i) m)) h)

-- a list that begins with i comes before one that begins behind it
before-later : {n b i : ℕ} {ls : List ℕ} (ks : List ℕ) → Chosen (suc n) (suc i) b ls → Before (i ∷ ks) ls
before-later ks c = go c.rising c.long
  where
    go : {n b i : ℕ} {ls : List ℕ} → Rising b (suc i) ls → length ls ≡ suc n → Before (i ∷ ks) ls
    go none l = absurd (omega arith)
    go (more k a c r) l = lower a

sorted-behind : (i : ℕ) {kss : List (List ℕ)} → Sorted Before kss → Sorted Before (map (λ ks. i ∷ ks) kss)
sorted-behind i nothing = nothing
sorted-behind i (item {x = x} {xs = xs} h s) =
    item (λ y m. let f = Memᴰ.of_map (λ ks. i ∷ ks) xs m in subst (Before (i ∷ x)) f.2 (same refl (h f.0 f.1))) (sorted-behind i s)

choices-sorted : (n i m : ℕ) → Sorted Before (choices n i m)
unfolding choices
choices-sorted zero i m = item (λ y h. absurd (Memᴰ.not-nil h)) nothing
choices-sorted (suc n) i zero = nothing
choices-sorted (suc n) i (suc m) =
    sorted-append (sorted-behind i (choices-sorted n (suc i) m)) (choices-sorted (suc n) (suc i) m)
    (λ x y h k.
    let f = Memᴰ.of_map (λ ks. i ∷ ks) (choices n (suc i) m) h in
    subst (λ (z : List ℕ). Before z y) f.2 (before-later f.0 (choices-are (suc n) (suc i) m (suc i + m) y refl k)))

-- ---- all of them, the shortest first

-- the left list comes before the right one
abbrev pub Earlier : List ℕ → List ℕ → Type 0
Earlier ks ls = (length ks < length ls) ⊎ ((length ks ≡ length ls) × Before ks ls)

order-has : (n m : ℕ) {ks : List ℕ} → Rising m 0 ks → length ks ≤ n → Memᴰ ks (in_order n m)
unfolding in_order
order-has zero m r l = choices-has 0 0 m m (omega arith) r (omega arith)
order-has (suc n) m {ks = ks} r l =
    ⊎_elim (λ (h : length ks < suc n). Memᴰ.append_left (choices (suc n) 0 m) (order-has n m r (omega arith)))
    (⊎_elim (λ (h : length ks ≡ suc n). Memᴰ.append_right (in_order n m) (choices-has (suc n) 0 m m (omega arith) r h)) (λ (h : suc n < length ks). absurd (omega arith)))
    (order (length ks) (suc n))

pub record Ordered (n m : ℕ) (ks : List ℕ) : Type 0 where
  pub rising : Rising m 0 ks
  pub short : length ks ≤ n

order-are : (n m : ℕ) (ks : List ℕ) → Memᴰ ks (in_order n m) → Ordered n m ks
unfolding in_order
order-are zero m ks h = let c = choices-are 0 0 m m ks (omega arith) h in record { rising = c.rising; short = omega (arith, c.long) }
order-are (suc n) m ks h =
    ⊎_elim (λ x. let o = order-are n m ks x in record { rising = o.rising; short = omega (arith, o.short) })
    (λ x. let c = choices-are (suc n) 0 m m ks (omega arith) x in record { rising = c.rising; short = omega (arith, c.long) })
    (Memᴰ.append_cases (in_order n m) h)

one-length : (n m : ℕ) → Sorted Earlier (choices n 0 m)
one-length n m =
    sorted-by (choices-sorted n 0 m)
    (λ x y h k b. inr ((choices-are n 0 m m x (omega arith) h).long ∙ sym (choices-are n 0 m m y (omega arith) k).long, b))

order-sorted : (n m : ℕ) → Sorted Earlier (in_order n m)
unfolding in_order
order-sorted zero m = one-length 0 m
order-sorted (suc n) m =
    sorted-append (order-sorted n m) (one-length (suc n) m)
    (λ x y h k. inl (omega (arith, (order-are n m x h).short, (choices-are (suc n) 0 m m y (omega arith) k).long)))

-- THE FIRST that passes a test, where ks does: it is a rising list, it passes, and it comes no later than ks
pub first-in-order : (n : ℕ) (p : List ℕ → Bool) (ks : List ℕ) → Rising n 0 ks → p ks ≡ true →
    let r = first_that p [] (in_order n n) in Rising n 0 r × (p r ≡ true) × ((r ≡ ks) ⊎ Earlier r ks)
first-in-order n p ks r t =
    let f = first_found p [] ks (order-sorted n n) (order-has n n r (omega (arith, rising-short r (omega arith)))) t in
    ((order-are n n (first_that p [] (in_order n n)) f.among).rising, f.passes, f.early)
