-- The laws of `tab`, over any type of element, and of a loop that passes a list from the front and stores new elements in it.
-- A list is read by `get_or` with an element e for the indices past its end. Assumes nothing.
use Prim.Native.Nat.{ℕ, zero, suc, ◌+◌, ◌-◌, ◌≤◌, ◌<◌}
use native.Mathlib.Nat.{le_of_suc-le-suc, not-suc-le-zero, eq-or-lt_of_le}
use native.Mathlib.Decide.{dec_lt}
use native.Mathlib.Numerals.{add-one}
use native.Mathlib.Omega.{arith}
use mathlib.Core.Path.{◌≡◌, refl, sym, ap, subst, ◌∙◌}
use mathlib.Core.Bool.{Bool, true, false, cond}
use mathlib.Core.List.{List, [], ◌∷◌, ◌++◌}
use mathlib.Core.Logic.{⊎_elim}
use borrow.Author.Tests.{lt-ltb, le-ltb, ltb-true, ltb-false}
use lib.Dec.{ltb}
use lib.ListN.{length, get_or, set, drop, replicate, length-set, length-append, length-drop, get_or-append}
use lib.Seq.{ext_get_or, get_or-set_same, get_or-set_other, get_or-append-add, get_or-drop}
use Rattle.finite.specs.Finite.{tab}
use Rattle.finite.proofs.Bools.{dec, same_number}

pub length-tab : {A : Type 0} (n : ℕ) (f : ℕ → A) → length (tab n f) ≡ n
unfolding tab
length-tab zero f = refl
length-tab (suc n) f = ap suc (length-tab n (λ i. f (suc i)))

pub tab-at : {A : Type 0} (e : A) (n : ℕ) (f : ℕ → A) (i : ℕ) → i < n → get_or (tab n f) i e ≡ f i
unfolding tab
tab-at e zero f i h = absurd (not-suc-le-zero h)
tab-at e (suc n) f zero h = refl
tab-at e (suc n) f (suc i) h = tab-at e n (λ j. f (suc j)) i (le_of_suc-le-suc h)

pub tab-past : {A : Type 0} (e : A) (n : ℕ) (f : ℕ → A) (i : ℕ) → n ≤ i → get_or (tab n f) i e ≡ e
unfolding tab
tab-past e zero f i h = refl
tab-past e (suc n) f zero h = absurd (not-suc-le-zero h)
tab-past e (suc n) f (suc i) h = tab-past e n (λ j. f (suc j)) i (le_of_suc-le-suc h)

-- a list with these elements is the table
pub tab-of : {A : Type 0} (e : A) (n : ℕ) (f : ℕ → A) (xs : List A) → length xs ≡ n → ((i : ℕ) → i < n → get_or xs i e ≡ f i) → xs ≡ tab n f
tab-of e n f xs l h =
    ext_get_or e xs (tab n f) (l ∙ sym (length-tab n f))
    (λ i b. let c : i < n = subst (λ (m : ℕ). i < m) l b in h i c ∙ sym (tab-at e n f i c))

pub tab-same : {A : Type 0} (n : ℕ) (f g : ℕ → A) → ((i : ℕ) → i < n → f i ≡ g i) → tab n f ≡ tab n g
unfolding tab
tab-same zero f g h = refl
tab-same (suc n) f g h = ap (λ x. x ∷ tab n (λ i. f (suc i))) (h 0 (omega arith)) ∙ ap (λ xs. g 0 ∷ xs) (tab-same n (λ i. f (suc i)) (λ i. g (suc i)) (λ i l. h (suc i) (omega arith)))

-- the last element apart
tab-last : {A : Type 0} (n : ℕ) (f : ℕ → A) → tab (suc n) f ≡ tab n f ++ (f n ∷ [])
unfolding tab
tab-last zero f = refl
tab-last (suc n) f = ap (λ l. f 0 ∷ l) (tab-last n (λ i. f (suc i)))

pub tab-more : {A : Type 0} (n : ℕ) (f : ℕ → A) → tab (n + 1) f ≡ tab n f ++ (f n ∷ [])
tab-more n f = ap (λ (k : ℕ). tab k f) (add-one n) ∙ tab-last n f

-- the same element everywhere
pub replicate-tab : {A : Type 0} (n : ℕ) (v : A) → replicate n v ≡ tab n (λ _. v)
unfolding tab
replicate-tab zero v = refl
replicate-tab (suc n) v = ap (λ l. v ∷ l) (replicate-tab n v)

-- a list that is a table: its length, for arithmetic, and the equation
pub record Made {A : Type 0} (n : ℕ) (f : ℕ → A) (xs : List A) : Type 0 where
  pub long : length xs ≡ n
  pub is : xs ≡ tab n f

pub made : {A : Type 0} (n : ℕ) (f : ℕ → A) (xs : List A) → xs ≡ tab n f → Made n f xs
made n f xs e = record { long = ap length e ∙ length-tab n f; is = e }

-- ---- a loop that stores

-- a number other than i is below i exactly if it is below i + 1
pub ltb_next : (r i : ℕ) → (r ≡ i → ⊥) → ltb r i ≡ ltb r (i + 1)
ltb_next r i ne =
    ⊎_elim (λ (q : ltb r i ≡ true). q ∙ sym (lt-ltb r (i + 1) (omega (arith, ltb-true r i q))))
    (λ (q : ltb r i ≡ false). q ∙ sym (le-ltb r (i + 1) (above (ltb-false r i q))))
    (dec (ltb r i))
  where
    above : i ≤ r → i + 1 ≤ r
    above l = omega (arith, ⊎_elim (λ (e : i ≡ r). absurd (ne (sym e))) (λ (h : i < r). h) (eq-or-lt_of_le l))

-- the loop has passed the indices below i of a list of length n: there stands the new element, and from i on the old one
pub record Upto {A : Type 0} (e : A) (n i : ℕ) (new old : ℕ → A) (xs : List A) : Type 0 where
  pub long : length xs ≡ n
  pub at : (r : ℕ) → r < n → get_or xs r e ≡ cond (ltb r i) (new r) (old r)

pub upto-start : {A : Type 0} (e : A) (n : ℕ) (new : ℕ → A) (xs : List A) → length xs ≡ n → Upto e n 0 new (λ r. get_or xs r e) xs
upto-start e n new xs l = record { long = l; at = λ r h. sym (ap (λ (b : Bool). cond b (new r) (get_or xs r e)) (le-ltb r 0 (omega arith))) }

module _ {A : Type 0} (e : A) (n i : ℕ) (new old : ℕ → A) (xs : List A) (u : Upto e n i new old xs) (l : i < n) where
  -- what stands at i is the old element
  pub upto-here : get_or xs i e ≡ old i
  upto-here = u.at i l ∙ ap (λ (b : Bool). cond b (new i) (old i)) (le-ltb i i (omega arith))

  other : (r : ℕ) → (r ≡ i → ⊥) → cond (ltb r i) (new r) (old r) ≡ cond (ltb r (i + 1)) (new r) (old r)
  other r ne = ap (λ (b : Bool). cond b (new r) (old r)) (ltb_next r i ne)

  next_here : cond (ltb i (i + 1)) (new i) (old i) ≡ new i
  next_here = ap (λ (b : Bool). cond b (new i) (old i)) (lt-ltb i (i + 1) (omega arith))

  -- the new element is stored
  pub upto-set : (v : A) → v ≡ new i → Upto e n (i + 1) new old (set xs i v)
  upto-set v h = record { long = length-set xs i v ∙ u.long; at = there }
    where
      l' : i < length xs
      l' = subst (λ (m : ℕ). i < m) (sym u.long) l

      there : (r : ℕ) → r < n → get_or (set xs i v) r e ≡ cond (ltb r (i + 1)) (new r) (old r)
      there r lr =
          ⊎_elim
          (λ (q : r ≡ i). subst (λ (j : ℕ). get_or (set xs i v) j e ≡ cond (ltb j (i + 1)) (new j) (old j)) (sym q)
          (get_or-set_same xs i v e l' ∙ h ∙ sym next_here))
          (λ (ne : r ≡ i → ⊥). get_or-set_other xs i r v e ne ∙ u.at r lr ∙ other r ne)
          (same_number r i)

  -- the element stored is made of the old one, which still stands there
  pub upto-map : (g : A → A) (v : A) → g (old i) ≡ new i → v ≡ g (get_or xs i e) → Upto e n (i + 1) new old (set xs i v)
  upto-map g v h w = upto-set v (w ∙ ap g upto-here ∙ h)

  -- the old element is the new one
  pub upto-keep : old i ≡ new i → Upto e n (i + 1) new old xs
  upto-keep h = record { long = u.long; at = there }
    where
      there : (r : ℕ) → r < n → get_or xs r e ≡ cond (ltb r (i + 1)) (new r) (old r)
      there r lr =
          ⊎_elim
          (λ (q : r ≡ i). subst (λ (j : ℕ). get_or xs j e ≡ cond (ltb j (i + 1)) (new j) (old j)) (sym q)
          (upto-here ∙ h ∙ sym next_here))
          (λ (ne : r ≡ i → ⊥). u.at r lr ∙ other r ne)
          (same_number r i)

pub upto-end : {A : Type 0} (e : A) (n i : ℕ) (new old : ℕ → A) (xs : List A) → Upto e n i new old xs → i ≤ n → n ≤ i → xs ≡ tab n new
upto-end e n i new old xs u l g =
    tab-of e n new xs u.long (λ r h. u.at r h ∙ ap (λ (b : Bool). cond b (new r) (old r)) (lt-ltb r i (omega arith)))

-- ---- the same loop in the first m elements of a longer list

upto-front : {A : Type 0} (e : A) (m : ℕ) (new : ℕ → A) (old xs : List A) → Upto e (length old) m new (λ r. get_or old r e) xs → m ≤ length old →
    xs ≡ tab m new ++ drop m old
upto-front {A} e m new old xs u l = ext_get_or e xs (tab m new ++ drop m old) long at
  where
    long : length xs ≡ length (tab m new ++ drop m old)
    long = u.long ∙ simp (length-append, length-tab, length-drop) (omega arith)

    past : (r : ℕ) → m ≤ r → get_or (tab m new ++ drop m old) r e ≡ get_or old r e
    past r h =
        let q : length (tab m new) + (r - m) ≡ r = omega (arith, length-tab m new) in
        let s : m + (r - m) ≡ r = omega arith in
        ap (λ (i : ℕ). get_or (tab m new ++ drop m old) i e) (sym q) ∙ get_or-append-add (tab m new) (drop m old) (r - m) e ∙ get_or-drop m old (r - m) e ∙
        ap (λ (i : ℕ). get_or old i e) s

    go : (r : ℕ) → r < length old → Dec (r < m) → get_or xs r e ≡ get_or (tab m new ++ drop m old) r e
    go r h (yes b) =
        u.at r h ∙ ap (λ (t : Bool). cond t (new r) (get_or old r e)) (lt-ltb r m b) ∙
        sym (get_or-append (tab m new) (drop m old) e r (omega (arith, length-tab m new)) ∙ tab-at e m new r b)
    go r h (no b) = u.at r h ∙ ap (λ (t : Bool). cond t (new r) (get_or old r e)) (le-ltb r m (omega arith)) ∙ sym (past r (omega arith))

    at : (r : ℕ) → r < length xs → get_or xs r e ≡ get_or (tab m new ++ drop m old) r e
    at r h = go r (omega (arith, u.long)) (dec_lt r m)

-- its end
pub upto-stored : {A : Type 0} (e : A) (m i : ℕ) (new : ℕ → A) (old xs : List A) → Upto e (length old) i new (λ r. get_or old r e) xs → i ≤ m → m ≤ i →
    m ≤ length old → xs ≡ tab m new ++ drop m old
upto-stored e m i new old xs u l g h =
    let q : i ≡ m = omega arith in
    upto-front e m new old xs (subst (λ (k : ℕ). Upto e (length old) k new (λ r. get_or old r e) xs) q u) h

-- ... where it copies a list
pub upto-copied : {A : Type 0} (e : A) (m i : ℕ) (from old xs : List A) → Upto e (length old) i (λ r. get_or from r e) (λ r. get_or old r e) xs → i ≤ m → m ≤ i →
    m ≤ length old → length from ≡ m → xs ≡ from ++ drop m old
upto-copied e m i from old xs u l g h k =
    upto-stored e m i (λ r. get_or from r e) old xs u l g h ∙ ap (λ ys. ys ++ drop m old) (sym (tab-of e m (λ r. get_or from r e) from k (λ r b. refl)))
