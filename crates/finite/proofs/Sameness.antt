-- Lists with a test of sameness: one more at the end, where an element stands, and the list without it. Assumes nothing.
use Prim.Native.Nat.{ℕ, zero, suc, ◌+◌, ◌≤◌, ◌<◌}
use native.Mathlib.Decide.{dec_lt}
use native.Mathlib.Nat.{not-suc-le-zero, le_of_suc-le-suc}
use native.Mathlib.Numerals.{add-one}
use native.Mathlib.Omega.{arith}
use mathlib.Core.Path.{◌≡◌, refl, sym, ap, ◌∙◌}
use mathlib.Core.Bool.{Bool, true, false, cond, ◌||◌}
use mathlib.Core.List.{List, [], ◌∷◌, ◌++◌}
use borrow.Author.Tests.{lt-ltb, le-ltb}
use lib.Dec.{ltb}
use lib.ListN.{length, get_or, length-append, get_or-append, get_or-eq_default}
use lib.Seq.{get_or-append_seam}
use Rattle.finite.specs.Finite.{tab}
use Rattle.finite.specs.Sameness.{listed, place_of, remove}
use Rattle.finite.proofs.Bools.{clash}

neither : (a b : Bool) → a || b ≡ false → (a ≡ false) × (b ≡ false)
neither true b e = clash refl e
neither false b e = (refl, e)

-- ---- a gap that closes

-- where place i's value stood before the value at place `gap` went
abbrev pub skip : ℕ → ℕ → ℕ
skip gap i = cond (ltb i gap) i (i + 1)

pub skip-before : (gap i : ℕ) → i < gap → skip gap i ≡ i
skip-before gap i l = ap (λ (b : Bool). cond b i (i + 1)) (lt-ltb i gap l)

pub skip-behind : (gap i : ℕ) → gap ≤ i → skip gap i ≡ i + 1
skip-behind gap i l = ap (λ (b : Bool). cond b i (i + 1)) (le-ltb i gap l)

skip-next : (gap i : ℕ) → skip (suc gap) (suc i) ≡ suc (skip gap i)
skip-next gap i = by-test (dec_lt i gap)
  where
    by-test : Dec (i < gap) → skip (suc gap) (suc i) ≡ suc (skip gap i)
    by-test (yes h) = skip-before (suc gap) (suc i) (omega arith) ∙ ap suc (sym (skip-before gap i h))
    by-test (no h) = skip-behind (suc gap) (suc i) (omega arith) ∙ omega (arith, skip-behind gap i (omega arith))

-- places keep their order
pub skip-rises : (gap j i : ℕ) → j < i → skip gap j < skip gap i
skip-rises gap j i l = by-test (dec_lt j gap) (dec_lt i gap)
  where
    by-test : Dec (j < gap) → Dec (i < gap) → skip gap j < skip gap i
    by-test (yes a) (yes b) = omega (arith, skip-before gap j a, skip-before gap i b)
    by-test (yes a) (no b) = omega (arith, skip-before gap j a, skip-behind gap i (omega arith))
    by-test (no a) (yes b) = absurd (omega arith)
    by-test (no a) (no b) = omega (arith, skip-behind gap j (omega arith), skip-behind gap i (omega arith))

pub skip-le : (gap i : ℕ) → skip gap i ≤ i + 1
skip-le gap i = by-test (dec_lt i gap)
  where
    by-test : Dec (i < gap) → skip gap i ≤ i + 1
    by-test (yes a) = omega (arith, skip-before gap i a)
    by-test (no a) = omega (arith, skip-behind gap i (omega arith))

-- `same` is the test; z is what is read past a list's end
module _ {A : Type 0} (same : A → A → Bool) (z : A) where
  abbrev at : List A → ℕ → A
  at xs i = get_or xs i z

  -- ---- one more at the end

  module _ (ps : List A) (p : A) where
    pub end-length : length (ps ++ (p ∷ [])) ≡ length ps + 1
    end-length = length-append ps (p ∷ [])

    pub end-before : (i : ℕ) → i < length ps → at (ps ++ (p ∷ [])) i ≡ at ps i
    end-before i l = get_or-append ps (p ∷ []) z i l

    pub end-last : (i : ℕ) → i ≡ length ps → at (ps ++ (p ∷ [])) i ≡ p
    end-last i e = rw e (get_or-append_seam ps p [] z)

    pub end-past : (i : ℕ) → length ps < i → at (ps ++ (p ∷ [])) i ≡ z
    end-past i l = get_or-eq_default (ps ++ (p ∷ [])) z (omega (arith, end-length))

  -- ---- the place of an element

  pub place-le : (p : A) (ps : List A) → place_of same p ps ≤ length ps
  unfolding place_of
  place-le p [] = omega arith
  place-le p (q ∷ qs) = go (same q p) (place-le p qs)
    where
      go : (b : Bool) → place_of same p qs ≤ length qs → cond b 0 (suc (place_of same p qs)) ≤ suc (length qs)
      go true h = omega arith
      go false h = omega arith

  -- a pair is listed same if its place is one of the list's
  pub listed-place : (p : A) (ps : List A) → ltb (place_of same p ps) (length ps) ≡ listed same p ps
  unfolding place_of listed
  listed-place p [] = le-ltb 0 0 (omega arith)
  listed-place p (q ∷ qs) = go (same q p) (listed-place p qs)
    where
      next : (g n : ℕ) → ltb (suc g) (suc n) ≡ ltb g n
      next g n = by-test (dec_lt g n)
        where
          by-test : Dec (g < n) → ltb (suc g) (suc n) ≡ ltb g n
          by-test (yes h) = lt-ltb (suc g) (suc n) (omega arith) ∙ sym (lt-ltb g n h)
          by-test (no h) = le-ltb (suc g) (suc n) (omega arith) ∙ sym (le-ltb g n (omega arith))

      go : (b : Bool) → ltb (place_of same p qs) (length qs) ≡ listed same p qs → ltb (cond b 0 (suc (place_of same p qs))) (suc (length qs)) ≡ b || listed same p qs
      go true h = lt-ltb 0 (suc (length qs)) (omega arith)
      go false h = next (place_of same p qs) (length qs) ∙ h

  -- one that is not listed same is at no place
  pub unlisted-at : (p : A) (ps : List A) → listed same p ps ≡ false → (i : ℕ) → i < length ps → same (at ps i) p ≡ false
  unfolding listed
  unlisted-at p [] n i l = absurd (not-suc-le-zero l)
  unlisted-at p (q ∷ qs) n zero l = (neither (same q p) (listed same p qs) n).0
  unlisted-at p (q ∷ qs) n (suc i) l = unlisted-at p qs (neither (same q p) (listed same p qs) n).1 i (le_of_suc-le-suc l)

  -- a loop over the places that leaves at the first that is p: there, and past the last
  pub place_found : (p : A) (n i : ℕ) (f : ℕ → A) → i < n → ((j : ℕ) → j < i → same (f j) p ≡ false) → same (f i) p ≡ true → i ≡ place_of same p (tab n f)
  unfolding place_of tab
  place_found p zero i f l h e = absurd (not-suc-le-zero l)
  place_found p (suc n) zero f l h e = sym (ap (λ (b : Bool). cond b 0 (suc (place_of same p (tab n (λ j. f (suc j)))))) e)
  place_found p (suc n) (suc i) f l h e =
      ap suc (place_found p n i (λ j. f (suc j)) (le_of_suc-le-suc l) (λ j k. h (suc j) (omega arith)) e) ∙
      sym (ap (λ (b : Bool). cond b 0 (suc (place_of same p (tab n (λ j. f (suc j)))))) (h 0 (omega arith)))

  pub place_none : (p : A) (n : ℕ) (f : ℕ → A) → ((j : ℕ) → j < n → same (f j) p ≡ false) → n ≡ place_of same p (tab n f)
  unfolding place_of tab
  place_none p zero f h = refl
  place_none p (suc n) f h =
      ap suc (place_none p n (λ j. f (suc j)) (λ j k. h (suc j) (omega arith))) ∙
      sym (ap (λ (b : Bool). cond b 0 (suc (place_of same p (tab n (λ j. f (suc j)))))) (h 0 (omega arith)))

  -- ---- the list without an element

  pub remove-none : (p : A) (ps : List A) → length ps ≤ place_of same p ps → remove same p ps ≡ ps
  unfolding place_of remove
  remove-none p [] l = refl
  remove-none p (q ∷ qs) l = go (same q p) l (remove-none p qs)
    where
      go : (b : Bool) → suc (length qs) ≤ cond b 0 (suc (place_of same p qs)) → (length qs ≤ place_of same p qs → remove same p qs ≡ qs) → cond b qs (q ∷ remove same p qs) ≡ q ∷ qs
      go true h ih = absurd (not-suc-le-zero h)
      go false h ih = ap (λ (rs : List A). q ∷ rs) (ih (le_of_suc-le-suc h))

  pub remove-length : (p : A) (ps : List A) → place_of same p ps < length ps → length (remove same p ps) + 1 ≡ length ps
  unfolding place_of remove
  remove-length p [] l = absurd (not-suc-le-zero l)
  remove-length p (q ∷ qs) l = go (same q p) l (remove-length p qs)
    where
      go : (b : Bool) → cond b 0 (suc (place_of same p qs)) < suc (length qs) → (place_of same p qs < length qs → length (remove same p qs) + 1 ≡ length qs) →
          length (cond b qs (q ∷ remove same p qs)) + 1 ≡ suc (length qs)
      go true h ih = omega arith
      go false h ih = omega (arith, ih (le_of_suc-le-suc h))

  pub remove-at : (p : A) (ps : List A) → place_of same p ps < length ps → (i : ℕ) → at (remove same p ps) i ≡ at ps (skip (place_of same p ps) i)
  unfolding place_of remove
  remove-at p [] l i = absurd (not-suc-le-zero l)
  remove-at p (q ∷ qs) l i = go (same q p) l (remove-at p qs) i
    where
      later : ((k : ℕ) → at (remove same p qs) k ≡ at qs (skip (place_of same p qs) k)) → (j : ℕ) →
          at (q ∷ remove same p qs) j ≡ at (q ∷ qs) (skip (suc (place_of same p qs)) j)
      later ih zero = sym (ap (at (q ∷ qs)) (skip-before (suc (place_of same p qs)) 0 (omega arith)))
      later ih (suc j) = ih j ∙ sym (ap (at (q ∷ qs)) (skip-next (place_of same p qs) j))

      go : (b : Bool) → cond b 0 (suc (place_of same p qs)) < suc (length qs) → (place_of same p qs < length qs → (k : ℕ) →
          at (remove same p qs) k ≡ at qs (skip (place_of same p qs) k)) →
          (j : ℕ) → at (cond b qs (q ∷ remove same p qs)) j ≡ at (q ∷ qs) (skip (cond b 0 (suc (place_of same p qs))) j)
      go true h ih j = sym (ap (at (q ∷ qs)) (skip-behind 0 j (omega arith) ∙ add-one j))
      go false h ih j = later (ih (le_of_suc-le-suc h)) j
