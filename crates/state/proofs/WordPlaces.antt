-- Arrays as words, over the type of a place, its words, how many of them it takes, and how many places there are: how long they are, reading them place by place,
-- the loop that stores each place's words behind those before, reading them back, narrowness, and that storing again what they stand for changes nothing. A proof
-- that cites the loop answers the needs in the order of the code: the start, what a turn calls and indexes, the turn, the end. Assumes nothing.
use Prim.Native.Nat.{ℕ, zero, suc, ◌+◌, ◌*◌, ◌≤◌, ◌<◌}
use native.Mathlib.Omega.{arith}
use mathlib.Core.Path.{◌≡◌, refl, sym, ap, subst, ◌∙◌}
use mathlib.Core.Logic.{◌⊎◌, ⊎_elim}
use mathlib.Core.Bool.{Bool, true, and-eq-true_iff}
use mathlib.Core.List.{List, [], ◌∷◌}
use borrow.Author.Tests.{ltb-true, lt-ltb}
use lib.ListN.{length, get_or, set, length-set}
use lib.Seq.{sets, set-get_or, get_or-set_same, get_or-set_other}
use Rattle.finite.specs.Finite.{all, tab}
use Rattle.finite.proofs.Bools.{order, same_number, both}
use Rattle.finite.proofs.Collecting.{length-pieces}
use Rattle.finite.proofs.Search.{all_true}
use Rattle.finite.proofs.Standing.{Stands, stands_at, stands-piece}
use Rattle.finite.proofs.Stores.{sets_then, Pieces, pieces-start, pieces_more, pieces_end}
use Rattle.finite.proofs.Tables.{length-tab, tab-at, tab-of, Upto, upto-start, upto-set, upto-end}
use Rattle.state.specs.HeldWords.{word_at, byte_of, places_words, places_from, is_byte, narrow_two}

-- ---- n places of w words each

pub length-places : {A : Type 0} (n w : ℕ) (none : A) (words : A → List ℕ) → ((x : A) → length (words x) ≡ w) → (xs : List A) →
    length (places_words n none words xs) ≡ w * n
length-places n w none words even xs = length-pieces w _ (λ i. even (get_or xs i none)) n

-- ---- reading: of the n places the first i have been made of the words ws, and the others are as in `old`

pub record Reading {A : Type 0} (n a w : ℕ) (none : A) (from : List ℕ → ℕ → A) (ws : List ℕ) (old xs : List A) (i : ℕ) : Type 0 where
  pub most : i ≤ n
  pub places : Upto none n i (λ j. from ws (a + w * j)) (λ j. get_or old j none) xs

module _ {A : Type 0} {n a w : ℕ} {none : A} {from : List ℕ → ℕ → A} {ws : List ℕ} {old : List A} where
  pub reading-start : length old ≡ n → Reading n a w none from ws old old 0
  reading-start l = record { most = omega arith; places = upto-start none n _ old l }

  pub reading-more : {xs : List A} {i : ℕ} {v : A} → Reading n a w none from ws old xs i → i < n → v ≡ from ws (a + w * i) →
      Reading n a w none from ws old (set xs i v) (i + 1)
  reading-more {xs} {i} {v} r l h = record { most = omega arith; places = upto-set none n i _ _ xs r.places l v h }

  pub reading-end : {xs : List A} {i : ℕ} → Reading n a w none from ws old xs i → n ≤ i → xs ≡ places_from n a w from ws
  reading-end {xs} {i} r g = upto-end none n i _ _ xs r.places r.most g

-- ---- storing: the words of the first i of the n places of xs stand in `old` from word a on

pub record Storing {A : Type 0} (n a w : ℕ) (none : A) (words : A → List ℕ) (xs : List A) (old ws : List ℕ) (i : ℕ) : Type 0 where
  pub most : i ≤ n
  pub places : Pieces (λ j. words (get_or xs j none)) old a i ws

module _ {A : Type 0} {n a w : ℕ} {none : A} {words : A → List ℕ} {xs : List A} {old : List ℕ} where
  pub storing-start : Storing n a w none words xs old old 0
  storing-start = record { most = omega arith; places = pieces-start _ old a }

  pub storing-more : {ws ws' : List ℕ} {i : ℕ} → Storing n a w none words xs old ws i → i < n → ((x : A) → length (words x) ≡ w) →
      ws' ≡ sets ws (a + w * i) (words (get_or xs i none)) → Storing n a w none words xs old ws' (i + 1)
  storing-more {ws} {ws'} {i} s l even h = record { most = omega arith; places = pieces_more _ old a w (λ j. even (get_or xs j none)) i ws ws' s.places h }

  pub storing-end : {ws : List ℕ} {i : ℕ} → Storing n a w none words xs old ws i → n ≤ i → ws ≡ sets old a (places_words n none words xs)
  storing-end {ws} {i} s g = pieces_end _ old a i n ws s.most g s.places

-- what holds of the places passed holds of one more
pub below_more : (P : ℕ → Type 0) (i : ℕ) → ((j : ℕ) → j < i → P j) → P i → (j : ℕ) → j < i + 1 → P j
below_more P i f p j l = ⊎_elim (f j) (λ (q : (j ≡ i) ⊎ (i < j)). ⊎_elim (λ (e : j ≡ i). subst P (sym e) p) (λ m. absurd (omega arith)) q) (order j i)

-- two words, and others behind them
pub stored-behind : (l x y : List ℕ) (i a b : ℕ) (cs : List ℕ) → x ≡ sets l i (a ∷ b ∷ []) → y ≡ sets x (i + 2) cs → y ≡ sets l i (a ∷ b ∷ cs)
stored-behind l x y i a b cs p q = q ∙ ap (λ (m : List ℕ). sets m (i + 2) cs) p ∙ sets_then (a ∷ b ∷ []) cs l i (i + 2) refl

-- ---- reading them back

-- the word that stands at a place is read there, and a byte is
module _ (s x : List ℕ) (i : ℕ) (h : Stands s i x) where
  pub word_back : (j k : ℕ) → j < length x → k ≡ i + j → get_or x j 0 ≡ word_at s k
  word_back j k l p = sym (ap (word_at s) p ∙ stands_at s x i h j l)

  pub byte-back : (j k : ℕ) → j < length x → k ≡ i + j → get_or x j 0 < 256 → get_or x j 0 ≡ byte_of s k
  byte-back j k l p small = let w : get_or x j 0 ≡ word_at s k = word_back j k l p in omega arith

  -- it is a byte
  pub byte-stands : (j k : ℕ) → j < length x → k ≡ i + j → get_or x j 0 < 256 → is_byte s k ≡ true
  unfolding is_byte
  byte-stands j k l p small = lt-ltb _ _ (subst (λ v. v < 256) (sym (ap (λ (m : ℕ). get_or s m 0) p ∙ stands_at s x i h j l)) small)

pub two-stand : (s : List ℕ) (i a b : ℕ) → Stands s i (a ∷ b ∷ []) → a < 256 → b < 256 → narrow_two s i ≡ true
unfolding narrow_two
two-stand s i a b h m n = both (byte-stands s _ i h 0 i (omega arith) (omega arith) m) (byte-stands s _ i h 1 (i + 1) (omega arith) refl n)

-- all places of an array, of which each is read back
pub places-back : {A : Type 0} (n a w : ℕ) (none : A) (words : A → List ℕ) (from : List ℕ → ℕ → A) (Narrow : A → Type 0) →
    ((x : A) → length (words x) ≡ w) → ((s : List ℕ) (i : ℕ) (x : A) → Stands s i (words x) → Narrow x → x ≡ from s i) →
    (s : List ℕ) (xs : List A) → Stands s a (places_words n none words xs) → length xs ≡ n → ((i : ℕ) → i < n → Narrow (get_or xs i none)) →
    xs ≡ places_from n a w from s
places-back n a w none words from Narrow even back s xs h z m =
    tab-of none n _ xs z (λ i l. back s (a + w * i) (get_or xs i none) (stands-piece s a w _ (λ j. even (get_or xs j none)) n h i l) (m i l))

-- every place of an array passes the test of its words
pub places-narrow : {A : Type 0} (n a w : ℕ) (none : A) (words : A → List ℕ) (test : List ℕ → ℕ → Bool) (N : A → Type 0) → ((x : A) → length (words x) ≡ w) →
    ((s : List ℕ) (i : ℕ) (x : A) → Stands s i (words x) → N x → test s i ≡ true) → (s : List ℕ) (xs : List A) → Stands s a (places_words n none words xs) →
    ((i : ℕ) → i < n → N (get_or xs i none)) → all n (λ i. test s (a + w * i)) ≡ true
places-narrow n a w none words test N even one s xs h small =
    all_true n _ (λ i l. one s (a + w * i) (get_or xs i none) (stands-piece s a w _ (λ j. even (get_or xs j none)) n h i l) (small i l))

-- ---- storing again what words stand for

module _ (l : List ℕ) where
  pub one_kept : (i a : ℕ) → a ≡ word_at l i → set l i a ≡ l
  one_kept i a p = ap (set l i) p ∙ set-get_or l i 0

  pub two-kept : (i a b : ℕ) → a ≡ word_at l i → b ≡ word_at l (i + 1) → sets l i (a ∷ b ∷ []) ≡ l
  two-kept i a b p q = ap (λ (m : List ℕ). sets m (suc i) (b ∷ [])) (one_kept i a p) ∙ one_kept (suc i) b (q ∙ ap (word_at l) (omega arith))

  pub three-kept : (i a b c : ℕ) → a ≡ word_at l i → b ≡ word_at l (i + 1) → c ≡ word_at l (i + 2) → sets l i (a ∷ b ∷ c ∷ []) ≡ l
  three-kept i a b c p q r =
      ap (λ (m : List ℕ). sets m (suc i) (b ∷ c ∷ [])) (one_kept i a p) ∙
      two-kept (suc i) b c (q ∙ ap (word_at l) (omega arith)) (r ∙ ap (word_at l) (omega arith))

  pub four-kept : (i a b c d : ℕ) → a ≡ word_at l i → b ≡ word_at l (i + 1) → c ≡ word_at l (i + 2) → d ≡ word_at l (i + 3) → sets l i (a ∷ b ∷ c ∷ d ∷ []) ≡ l
  four-kept i a b c d p q r s =
      ap (λ (m : List ℕ). sets m (suc i) (b ∷ c ∷ d ∷ [])) (one_kept i a p) ∙
      three-kept (suc i) b c d (q ∙ ap (word_at l) (omega arith)) (r ∙ ap (word_at l) (omega arith)) (s ∙ ap (word_at l) (omega arith))

  -- a byte is read as it stands
  pub byte-kept : (i : ℕ) → is_byte l i ≡ true → byte_of l i ≡ word_at l i
  unfolding is_byte
  byte-kept i e = let m = ltb-true (word_at l i) 256 e in omega (arith, m)

  pub two_bytes : (i : ℕ) → narrow_two l i ≡ true → (byte_of l i ≡ word_at l i) × (byte_of l (i + 1) ≡ word_at l (i + 1))
  unfolding narrow_two
  two_bytes i e = let p = (and-eq-true_iff (is_byte l i) (is_byte l (i + 1))).0 e in (byte-kept i p.0, byte-kept (i + 1) p.1)

  -- all places of an array
  pub places-kept : {A : Type 0} (n a w : ℕ) (none : A) (words : A → List ℕ) (from : List ℕ → ℕ → A) → ((x : A) → length (words x) ≡ w) →
      ((i : ℕ) → i < n → sets l (a + w * i) (words (from l (a + w * i))) ≡ l) → sets l a (places_words n none words (places_from n a w from l)) ≡ l
  places-kept {A} n a w none words from even kept = sym (go n (omega arith)).is
    where
      go : (i : ℕ) → i ≤ n → Pieces (λ j. words (get_or (places_from n a w from l) j none)) l a i l
      go zero h = pieces-start (λ j. words (get_or (places_from n a w from l) j none)) l a
      go (suc i) h =
          subst (λ (m : ℕ). Pieces (λ j. words (get_or (places_from n a w from l) j none)) l a m l) (omega arith)
          (pieces_more (λ j. words (get_or (places_from n a w from l) j none)) l a w (λ j. even (get_or (places_from n a w from l) j none)) i l l (go i (omega arith))
          (sym (ap (λ (x : A). sets l (a + w * i) (words x)) (tab-at none n (λ j. from l (a + w * j)) i (omega arith)) ∙ kept i (omega arith))))

-- ---- one place stored anew

-- a table with another element at i
pub tab-set : {A : Type 0} (e : A) (n i : ℕ) (f g : ℕ → A) (v : A) → i < n → g i ≡ v → ((j : ℕ) → j < n → (j ≡ i → ⊥) → g j ≡ f j) → tab n g ≡ set (tab n f) i v
tab-set {A} e n i f g v l h others = sym (tab-of e n g (set (tab n f) i v) (length-set (tab n f) i v ∙ length-tab n f) at)
  where
    at : (j : ℕ) → j < n → get_or (set (tab n f) i v) j e ≡ g j
    at j m =
        ⊎_elim
        (λ (q : j ≡ i). subst (λ (k : ℕ). get_or (set (tab n f) i v) k e ≡ g k) (sym q) (get_or-set_same (tab n f) i v e (omega (arith, length-tab n f)) ∙ sym h))
        (λ (ne : j ≡ i → ⊥). get_or-set_other (tab n f) i j v e ne ∙ tab-at e n f j m ∙ sym (others j m ne))
        (same_number j i)

-- every place passes a test that the one at i passes, and the others passed before
pub all_set : (n i : ℕ) (f g : ℕ → Bool) → g i ≡ true → ((j : ℕ) → j < n → f j ≡ true) → ((j : ℕ) → j < n → (j ≡ i → ⊥) → g j ≡ f j) → all n g ≡ true
all_set n i f g h passed others =
    all_true n g (λ j l. ⊎_elim (λ (q : j ≡ i). ap g q ∙ h) (λ (ne : j ≡ i → ⊥). others j l ne ∙ passed j l) (same_number j i))
