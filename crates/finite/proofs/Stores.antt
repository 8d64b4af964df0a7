-- A list with the elements of another stored in it from a place on: what stands where, one more store, and loops that store a table or pieces one behind
-- the other. Assumes nothing.
use Prim.Native.Nat.{ℕ, zero, suc, ◌+◌, ◌*◌, ◌≤◌, ◌<◌}
use native.Mathlib.Nat.{le_of_suc-le-suc, not-suc-le-zero, add-zero, suc_inj}
use native.Mathlib.Numerals.{add-one, add-two, add-three, add-four}
use native.Mathlib.Omega.{arith}
use mathlib.Core.Path.{◌≡◌, refl, sym, ap, ap₂, subst, ◌∙◌}
use mathlib.Core.Bool.{true}
use mathlib.Core.List.{List, [], ◌∷◌, ◌++◌}
use lib.ListN.{length, get_or, set, length-set}
use lib.Seq.{sets, length-sets, set-set, set_comm, get_or-set_same, get_or-set_other}
use Rattle.finite.specs.Finite.{tab, collect}
use Rattle.finite.proofs.Tables.{length-tab, tab-more}
use Rattle.finite.proofs.Collecting.{collect-start, collect-suc, length-pieces}
use Rattle.finite.proofs.Writing.{sets-append}

module _ {A : Type 0} where
  -- ---- what stands where

  pub sets_below : (e : A) (l : List A) (b : ℕ) (vs : List A) (x : ℕ) → x < b → get_or (sets l b vs) x e ≡ get_or l x e
  sets_below e l b [] x h = refl
  sets_below e l b (a ∷ vs) x h = sets_below e (set l b a) (suc b) vs x (omega arith) ∙ get_or-set_other l b x a e (λ q. omega arith)

  pub sets-above : (e : A) (l : List A) (b : ℕ) (vs : List A) (x : ℕ) → b + length vs ≤ x → get_or (sets l b vs) x e ≡ get_or l x e
  sets-above e l b [] x h = refl
  sets-above e l b (a ∷ vs) x h = sets-above e (set l b a) (suc b) vs x (omega arith) ∙ get_or-set_other l b x a e (λ q. omega arith)

  pub sets-at : (e : A) (l : List A) (b : ℕ) (vs : List A) (j : ℕ) → b + length vs ≤ length l → j < length vs → get_or (sets l b vs) (b + j) e ≡ get_or vs j e
  sets-at e l b [] j f h = absurd (not-suc-le-zero h)
  sets-at e l b (a ∷ vs) zero f h =
      sets_below e (set l b a) (suc b) vs (b + 0) (omega arith) ∙ ap (λ (x : ℕ). get_or (set l b a) x e) (add-zero b) ∙ get_or-set_same l b a e (omega arith)
  sets-at e l b (a ∷ vs) (suc j) f h =
      ap (λ (x : ℕ). get_or (sets (set l b a) (suc b) vs) x e) (omega arith)
      ∙ sets-at e (set l b a) (suc b) vs j (omega (arith, length-set l b a)) (le_of_suc-le-suc h)

  -- ---- one more store

  -- before the place
  sets-set-below : (l : List A) (b : ℕ) (vs : List A) (x : ℕ) (v : A) → x < b → set (sets l b vs) x v ≡ sets (set l x v) b vs
  sets-set-below l b [] x v h = refl
  sets-set-below l b (a ∷ vs) x v h =
      sets-set-below (set l b a) (suc b) vs x v (omega arith) ∙ ap (λ (m : List A). sets m (suc b) vs) (set_comm l b x a v (λ q. omega arith))

  -- over one of the elements
  pub sets-set : (l : List A) (b : ℕ) (vs : List A) (j : ℕ) (v : A) → j < length vs → set (sets l b vs) (b + j) v ≡ sets l b (set vs j v)
  sets-set l b [] j v h = absurd (not-suc-le-zero h)
  sets-set l b (a ∷ vs) zero v h =
      ap (λ (x : ℕ). set (sets (set l b a) (suc b) vs) x v) (add-zero b)
      ∙ sets-set-below (set l b a) (suc b) vs b v (omega arith) ∙ ap (λ (m : List A). sets m (suc b) vs) (set-set l b a v)
  sets-set l b (a ∷ vs) (suc j) v h =
      ap (λ (x : ℕ). set (sets (set l b a) (suc b) vs) x v) (omega arith) ∙ sets-set (set l b a) (suc b) vs j v (le_of_suc-le-suc h)

  -- over all of them
  pub sets-twice : (l : List A) (b : ℕ) (vs ws : List A) → length vs ≡ length ws → sets (sets l b vs) b ws ≡ sets l b ws
  sets-twice l b [] [] e = refl
  sets-twice l b [] (w ∷ ws) e = absurd (omega arith)
  sets-twice l b (a ∷ vs) [] e = absurd (omega arith)
  sets-twice l b (a ∷ vs) (w ∷ ws) e =
      ap (λ (m : List A). sets m (suc b) ws)
      (sets-set-below (set l b a) (suc b) vs b w (omega arith) ∙ ap (λ (m : List A). sets m (suc b) vs) (set-set l b a w))
      ∙ sets-twice (set l b w) (suc b) vs ws (suc_inj e)

  -- ---- piece by piece

  -- the second piece stands at a place k, which the first ends at
  pub sets_then : (xs ys l : List A) (i k : ℕ) → k ≡ i + length xs → sets (sets l i xs) k ys ≡ sets l i (xs ++ ys)
  sets_then xs ys l i k e = ap (λ (j : ℕ). sets (sets l i xs) j ys) e ∙ sets-append l i xs ys

  pub stored-three : (l : List A) (i : ℕ) (x y z : A) → set (set (set l i x) (i + 1) y) (i + 2) z ≡ sets l i (x ∷ y ∷ z ∷ [])
  stored-three l i x y z = rw (add-one i, add-two i)

  pub stored-four : (l : List A) (i : ℕ) (w x y z : A) → set (set (set (set l i w) (i + 1) x) (i + 2) y) (i + 3) z ≡ sets l i (w ∷ x ∷ y ∷ z ∷ [])
  stored-four l i w x y z = rw (add-one i, add-two i, add-three i)

  pub stored-five : (l : List A) (i : ℕ) (v w x y z : A) → set (set (set (set (set l i v) (i + 1) w) (i + 2) x) (i + 3) y) (i + 4) z ≡ sets l i (v ∷ w ∷ x ∷ y ∷ z ∷ [])
  stored-five l i v w x y z = rw (add-one i, add-two i, add-three i, add-four i)

-- ---- a loop has stored the first n elements of a table into the list `old`, from place a on: its start, a turn, its end

pub record Tabled {A : Type 0} (f : ℕ → A) (old : List A) (a n : ℕ) (xs : List A) : Type 0 where
  pub long : length xs ≡ length old
  pub is : xs ≡ sets old a (tab n f)

module _ {A : Type 0} (f : ℕ → A) (old : List A) (a : ℕ) where
  pub tabled_start : Tabled f old a 0 old
  unfolding tab
  tabled_start = record { long = refl; is = refl }

  pub tabled-more : (n : ℕ) (xs : List A) (v : A) → Tabled f old a n xs → v ≡ f n → Tabled f old a (n + 1) (set xs (a + n) v)
  tabled-more n xs v t e =
      record {
        long = length-set xs (a + n) v ∙ t.long;
        is =
            ap₂ (λ (l : List A) (x : A). sets l (a + n) (x ∷ [])) t.is e ∙
            sets_then (tab n f) (f n ∷ []) old a (a + n) (ap (λ (k : ℕ). a + k) (sym (length-tab n f))) ∙ ap (sets old a) (sym (tab-more n f));
      }

  pub tabled-end : (n m : ℕ) (xs : List A) → n ≤ m → m ≤ n → Tabled f old a n xs → xs ≡ sets old a (tab m f)
  tabled-end n m xs l g t = let e : n ≡ m = omega arith in subst (λ (k : ℕ). xs ≡ sets old a (tab k f)) e t.is

-- ---- a loop has stored the first n pieces: its start, a turn that stores a piece of length w, its end

pub record Pieces {A : Type 0} (f : ℕ → List A) (old : List A) (a n : ℕ) (xs : List A) : Type 0 where
  pub long : length xs ≡ length old
  pub is : xs ≡ sets old a (collect n (λ _. true) f)

module _ {A : Type 0} (f : ℕ → List A) (old : List A) (a : ℕ) where
  pieces : (n : ℕ) (xs : List A) → xs ≡ sets old a (collect n (λ _. true) f) → Pieces f old a n xs
  pieces n xs e = record { long = ap length e ∙ length-sets old a (collect n (λ _. true) f); is = e }

  pub pieces-start : Pieces f old a 0 old
  pieces-start = pieces 0 old (ap (sets old a) (collect-start (λ _. true) f))

  pub pieces_more : (w : ℕ) → ((i : ℕ) → length (f i) ≡ w) → (n : ℕ) (xs ys : List A) → Pieces f old a n xs → ys ≡ sets xs (a + w * n) (f n) → Pieces f old a (n + 1) ys
  pieces_more w even n xs ys s h =
      pieces (n + 1) ys
      (h ∙ ap (λ (zs : List A). sets zs (a + w * n) (f n)) s.is ∙
      sets_then (collect n (λ _. true) f) (f n) old a (a + w * n) (ap (λ (k : ℕ). a + k) (sym (length-pieces w f even n))) ∙
      ap (sets old a) (sym (collect-suc (λ _. true) f n)))

  pub pieces_end : (n m : ℕ) (xs : List A) → n ≤ m → m ≤ n → Pieces f old a n xs → xs ≡ sets old a (collect m (λ _. true) f)
  pieces_end n m xs l g s = let e : n ≡ m = omega arith in subst (λ (k : ℕ). xs ≡ sets old a (collect k (λ _. true) f)) e s.is
