-- A loop that goes from one row number that passes p to the next does what a loop over all numbers below 512 does: what the numbers that fail leave as
-- it was is the same at the first that passes. For loops that search, count, collect, add up or store. Assumes nothing.
use Prim.Native.Nat.{ℕ, ◌+◌, ◌≤◌, ◌<◌}
use native.Mathlib.Omega.{arith}
use mathlib.Core.Path.{◌≡◌, refl, sym, subst, ◌∙◌}
use mathlib.Core.Bool.{Bool, true, false, ◌&&◌}
use mathlib.Core.List.{List, [], ◌++◌}
use Rattle.finite.specs.Finite.{any, count, collect, first_from}
use Rattle.finite.proofs.Bools.{and_left, and_right}
use Rattle.finite.proofs.Search.{any-start, any-more}
use Rattle.finite.proofs.Counting.{count-start, count-hit, count-miss}
use Rattle.finite.proofs.Tables.{Upto}
use Rattle.finite.proofs.Collecting.{collect-start, collect-hit, collect-miss}
use Rattle.finite.proofs.Skipping.{onward, any-skip, count-skip, collect-skip, upto_skip}
use Rattle.finite.proofs.First.{First, first-from}

-- ---- from i to j, the first from i on that passes p

module _ (p : ℕ → Bool) (i j : ℕ) (l : i ≤ 512) (e : j ≡ first_from 512 p i) where
  pub first-at : First 512 p i j
  first-at = subst (First 512 p i) (sym e) (first-from 512 p i l)

  -- any fact that a number that fails takes one further
  pub walk : (P : ℕ → Type 0) → ((r : ℕ) → i ≤ r → r < 512 → p r ≡ false → P r → P (r + 1)) → P i → P j
  walk P h = onward P i j first-at.start (λ r a b. h r a (omega (arith, first-at.bound)) (first-at.none r a b))

  -- any function that a number that fails leaves as it was, as a sum so far
  pub walk_same : {A : Type 0} (f : ℕ → A) → ((r : ℕ) → i ≤ r → r < 512 → p r ≡ false → f (r + 1) ≡ f r) → f j ≡ f i
  walk_same f h = walk (λ r. f r ≡ f i) (λ r a b c d. h r a b c ∙ d) refl

  -- a list in which the numbers that fail keep their elements
  pub walk-upto : {A : Type 0} (x : A) (n : ℕ) (new old : ℕ → A) (xs : List A) → ((r : ℕ) → r < 512 → p r ≡ false → old r ≡ new r)
      → Upto x n i new old xs → Upto x n j new old xs
  walk-upto x n new old xs h u =
      upto_skip x n i j new old xs u first-at.start (λ r a b. h r (omega (arith, first-at.bound)) (first-at.none r a b))

-- ---- a test f that only numbers pass that pass p: the start of a loop, and its turn at r

-- such tests
module _ (p q : ℕ → Bool) (r : ℕ) (e : p r ≡ false) where
  pub only-left : p r && q r ≡ false
  only-left = and_left (p r) (q r) e

  pub only-right : q r && p r ≡ false
  only-right = and_right (q r) (p r) e

module _ (p f : ℕ → Bool) (only : (r : ℕ) → p r ≡ false → f r ≡ false) where
  module _ (i j : ℕ) (l : i ≤ 512) (e : j ≡ first_from 512 p i) where
    none : (r : ℕ) → i ≤ r → r < j → f r ≡ false
    none r a b = only r ((first-at p i j l e).none r a b)

    pub walk_any : any i f ≡ false → any j f ≡ false
    walk_any = any-skip f i j (first-at p i j l e).start none

    pub walk-count : (n : ℕ) → n ≡ count i f → n ≡ count j f
    walk-count = count-skip f i j (first-at p i j l e).start none

    pub walk-collect : {A : Type 0} (g : ℕ → List A) (xs : List A) → xs ≡ collect i f g → xs ≡ collect j f g
    walk-collect = collect-skip f i j (first-at p i j l e).start none

  module _ (j : ℕ) (e : j ≡ first_from 512 p 0) where
    pub any-first : any j f ≡ false
    any-first = walk_any 0 j (omega arith) e (any-start f)

    pub count-first : 0 ≡ count j f
    count-first = walk-count 0 j (omega arith) e 0 (count-start f)

    pub collect-first : {A : Type 0} (g : ℕ → List A) → [] ≡ collect j f g
    collect-first g = walk-collect 0 j (omega arith) e g [] (collect-start f g)

  module _ (r j : ℕ) (l : r < 512) (e : j ≡ first_from 512 p (r + 1)) where
    pub any_next : any r f ≡ false → f r ≡ false → any j f ≡ false
    any_next h m = walk_any (r + 1) j (omega arith) e (any-more r f h m)

    pub count-next-hit : (n : ℕ) → n ≡ count r f → f r ≡ true → n + 1 ≡ count j f
    count-next-hit n h m = walk-count (r + 1) j (omega arith) e (n + 1) (count-hit n r f h m)

    pub count-next-miss : (n : ℕ) → n ≡ count r f → f r ≡ false → n ≡ count j f
    count-next-miss n h m = walk-count (r + 1) j (omega arith) e n (count-miss n r f h m)

    module _ {A : Type 0} (g : ℕ → List A) (xs : List A) (h : xs ≡ collect r f g) where
      pub collect-next-hit : f r ≡ true → xs ++ g r ≡ collect j f g
      collect-next-hit m = walk-collect (r + 1) j (omega arith) e g (xs ++ g r) (collect-hit f g r xs h m)

      pub collect-next-miss : f r ≡ false → xs ≡ collect j f g
      collect-next-miss m = walk-collect (r + 1) j (omega arith) e g xs (collect-miss f g r xs h m)
