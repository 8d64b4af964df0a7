-- What a loop that looks for the first lack needs: its start, a turn, leaving at the first lack, passing over numbers at which nothing lacks, lists made by `tab`, and a
-- search that stops or doesn't. Assumes nothing.
use Prim.Native.Nat.{ℕ, zero, suc, ◌+◌, ◌≤◌, ◌<◌}
use native.Mathlib.Decide.{dec_lt}
use native.Mathlib.Numerals.{add-one}
use native.Mathlib.Omega.{arith}
use mathlib.Core.Path.{◌≡◌, refl, sym, ap, ap₂, subst, ◌∙◌}
use mathlib.Core.Logic.{◌⊎◌, inl, inr, ⊎_elim}
use mathlib.Core.Bool.{Bool, true, false, ◌||◌}
use mathlib.Core.List.{List, [], ◌∷◌, ◌++◌}
use borrow.Author.Tests.{ltb-true, ltb-false}
use lib.Dec.{ltb}
use Rattle.finite.specs.Finite.{any, tab, first}
use Rattle.finite.proofs.Bools.{bool-ext, clash, dec}
use Rattle.finite.proofs.First.{First, first-from}
use Rattle.finite.proofs.Search.{any-true, any_found, any-start, any-front, below_suc}
use Rattle.model.specs.Missing.{Fetch, some_fetch, Lack, nothing, lacks, or_lack, lack_in, lack_below}

or-last : (a : Lack) → or_lack a nothing ≡ a
or-last nothing = refl
or-last (lacks f) = refl

or-join : (a b c : Lack) → or_lack (or_lack a b) c ≡ or_lack a (or_lack b c)
or-join nothing b c = refl
or-join (lacks f) b c = refl

module _ (f : ℕ → Lack) where
  pub lack-start : lack_below 0 f ≡ nothing
  unfolding lack_below
  lack-start = refl

  pub lack-suc : (n : ℕ) → lack_below (n + 1) f ≡ or_lack (lack_below n f) (f n)
  unfolding lack_below
  lack-suc n = rw add-one

  -- a turn at which nothing lacks
  pub lack-more : (n : ℕ) → lack_below n f ≡ nothing → f n ≡ nothing → lack_below (n + 1) f ≡ nothing
  lack-more n h e = lack-suc n ∙ ap₂ or_lack h e

  -- the first lack is that of the whole
  pub lack-hit : (n i : ℕ) {g : Fetch} → i < n → lack_below i f ≡ nothing → f i ≡ lacks g → lack_below n f ≡ lacks g
  unfolding lack_below
  lack-hit zero i l h e = absurd (omega arith)
  lack-hit (suc n) i {g} l h e = go (below_suc l) (λ m. lack-hit n i m h e)
    where
      go : (i ≡ n) ⊎ (i < n) → (i < n → lack_below n f ≡ lacks g) → or_lack (lack_below n f) (f n) ≡ lacks g
      go (inl q) ih = ap₂ or_lack (ap (λ (m : ℕ). lack_below m f) (sym q) ∙ h) (ap f (sym q) ∙ e)
      go (inr m) ih = ap (λ (a : Lack). or_lack a (f n)) (ih m)

  -- numbers at which nothing lacks are passed over
  pub lack-skip : (i j : ℕ) → i ≤ j → lack_below i f ≡ nothing → ((r : ℕ) → i ≤ r → r < j → f r ≡ nothing) → lack_below j f ≡ nothing
  unfolding lack_below
  lack-skip i zero l h e = refl
  lack-skip i (suc j) l h e = go (dec_lt j i) (λ m. lack-skip i j m h (λ r a b. e r a (omega arith)))
    where
      go : Dec (j < i) → (i ≤ j → lack_below j f ≡ nothing) → or_lack (lack_below j f) (f j) ≡ nothing
      go (yes m) ih = let q : i ≡ suc j = omega arith in subst (λ (n : ℕ). lack_below n f ≡ nothing) q h
      go (no m) ih = ap₂ or_lack (ih (omega arith)) (e j (omega arith) (omega arith))

  pub lack-end : (n i : ℕ) → i ≤ n → n ≤ i → lack_below i f ≡ nothing → lack_below n f ≡ nothing
  lack-end n i a b h = let e : i ≡ n = omega arith in subst (λ (m : ℕ). lack_below m f ≡ nothing) e h

  -- where nothing lacks below n, nothing lacks at a number below n
  pub lack-at : (n i : ℕ) → i < n → lack_below n f ≡ nothing → f i ≡ nothing
  unfolding lack_below
  lack-at zero i l e = absurd (omega arith)
  lack-at (suc n) i l e = go (lack_below n f) (f n) refl refl e (below_suc l) (lack-at n i)
    where
      go : (a b : Lack) → lack_below n f ≡ a → f n ≡ b → or_lack a b ≡ nothing → (i ≡ n) ⊎ (i < n) → (i < n → lack_below n f ≡ nothing → f i ≡ nothing) → f i ≡ nothing
      go nothing b p q x (inl y) ih = ap f y ∙ q ∙ x
      go nothing b p q x (inr y) ih = ih y p
      go (lacks g) b p q x y ih = absurd (let z : ◌≡◌ {A = ℕ} 0 1 = cc in omega arith)

  -- the first number apart
  lack-front : (n : ℕ) → lack_below (suc n) f ≡ or_lack (f 0) (lack_below n (λ i. f (suc i)))
  unfolding lack_below
  lack-front zero = sym (or-last (f 0))
  lack-front (suc n) = ap (λ (a : Lack). or_lack a (f (suc n))) (lack-front n) ∙ or-join (f 0) (lack_below n (λ i. f (suc i))) (f (suc n))

-- lists of places
pub lack-tab : {A : Type 0} (g : A → Lack) (n : ℕ) (f : ℕ → A) → lack_in g (tab n f) ≡ lack_below n (λ i. g (f i))
unfolding lack_in tab
lack-tab g zero f = sym (lack-start (λ i. g (f i)))
lack-tab g (suc n) f = ap (λ (a : Lack). or_lack (g (f 0)) a) (lack-tab g n (λ i. f (suc i))) ∙ sym (lack-front (λ i. g (f i)) n)

pub lack-append : {A : Type 0} (g : A → Lack) (xs ys : List A) → lack_in g (xs ++ ys) ≡ or_lack (lack_in g xs) (lack_in g ys)
unfolding lack_in
lack-append g [] ys = refl
lack-append g (x ∷ xs) ys = ap (λ (a : Lack). or_lack (g x) a) (lack-append g xs ys) ∙ sym (or-join (g x) (lack_in g xs) (lack_in g ys))

pub some-tab : (p : Fetch → Bool) (n : ℕ) (f : ℕ → Fetch) → some_fetch p (tab n f) ≡ any n (λ i. p (f i))
unfolding some_fetch tab
some-tab p zero f = sym (any-start (λ i. p (f i)))
some-tab p (suc n) f = ap (λ (b : Bool). p (f 0) || b) (some-tab p n (λ i. f (suc i))) ∙ sym (any-front n (λ i. p (f i)))

-- a search that passes over what fails stops below n exactly if something passes
pub first_any : (n : ℕ) (p : ℕ → Bool) → ltb (first n p) n ≡ any n p
first_any n p =
    bool-ext (ltb (first n p) n) (any n p)
    (λ e. let l = ltb-true (first n p) n e in any-true n p (first n p) l (f.here l))
    (λ e. let g = any_found n p e in ⊎_elim (λ (t : ltb (first n p) n ≡ true). t)
    (λ (t : ltb (first n p) n ≡ false). clash g.2 (f.none g.0 (omega arith) (omega (arith, g.1, ltb-false (first n p) n t)))) (dec (ltb (first n p) n)))
  where
    f : First n p 0 (first n p)
    f = first-from n p 0 (omega arith)
