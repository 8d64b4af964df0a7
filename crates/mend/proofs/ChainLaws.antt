-- The next rows in one place of the rows: a walk to the row before r, and the stores that take r in or out. Assumes nothing.
use Prim.Native.Nat.{ℕ, ◌+◌, ◌*◌, ◌≤◌, ◌<◌}
use native.Mathlib.Omega.{arith}
use mathlib.Core.Path.{◌≡◌, refl, sym, ap, subst, ◌∙◌}
use mathlib.Core.Bool.{true}
use mathlib.Core.List.{List}
use mathlib.Core.Logic.{◌⊎◌, inl, inr}
use lib.ListN.{length, get_or, set, length-set}
use lib.Seq.{get_or-set_same, get_or-set_other}
use Rattle.finite.specs.Finite.{first_from}
use Rattle.finite.proofs.Bools.{same_number}
use Rattle.finite.proofs.First.{First, first-from}
use Rattle.model.specs.Cell.{Cell}
use Rattle.model.specs.Scheme as Model
use Rattle.model.specs.Database.{Database, has}
use Rattle.catalog.specs.Catalog.{next_of}
use Rattle.mend.specs.Changing.{Without, Last, Chained, Linking, Place}
use Rattle.catalog.proofs.CatalogLaws.{next-has}
use Rattle.mend.proofs.BesideLaws.{next-free, last-beside, first_next, last-leads, last-past, next-kept-first, next-kept-last}

-- ---- the walk

module _ (D : Database) (k : Model.Column) (v : Cell) (c : ℕ) (catalog : List ℕ) (x : Chained D c catalog) (q : k.place ≡ c) (p n : ℕ) (l : p < 512)
    (e : n ≡ get_or catalog (8 * p + c) 0) (h : has D k v p ≡ true) where
  on : n ≡ first_from 512 (has D k v) (p + 1)
  on = e ∙ x.at p l ∙ ap (next_of D p) (sym q) ∙ next-has D k v p h

  at : First 512 (has D k v) (p + 1) n
  at = subst (First 512 (has D k v) (p + 1)) (sym on) (first-from 512 (has D k v) (p + 1) (omega arith))

  -- the next row has the value
  pub chain-here : n < 512 → has D k v n ≡ true
  chain-here m = at.here m

  -- it stands behind r: p is the last before r
  pub chain-last : (r : ℕ) → p < r → r ≤ n → Last (has D k v) r p
  chain-last r a b = record { below = a; here = h; none = λ s f g. at.none s (omega arith) (omega arith) }

-- ---- the stores

module _ (c : ℕ) (xs : List ℕ) where
  pub place_same : Place c xs xs
  place_same = record { long = refl; other = λ s a l ne. refl; behind = λ x l. refl }

  pub place_set : c < 8 → (s v : ℕ) (ys : List ℕ) → s < 512 → Place c xs ys → Place c xs (set ys (8 * s + c) v)
  place_set q s v ys b p =
      record {
        long = length-set ys (8 * s + c) v ∙ p.long;
        other = λ t a l ne. get_or-set_other ys (8 * s + c) (8 * t + a) v 0 (λ e. ne (omega arith)) ∙ p.other t a l ne;
        behind = λ x l. get_or-set_other ys (8 * s + c) x v 0 (λ e. omega arith) ∙ p.behind x l;
      }

-- at another row
apart : (c : ℕ) → c < 8 → (xs : List ℕ) (s t v : ℕ) → (t ≡ s → ⊥) → get_or (set xs (8 * s + c) v) (8 * t + c) 0 ≡ get_or xs (8 * t + c) 0
apart c q xs s t v ne = get_or-set_other xs (8 * s + c) (8 * t + c) v 0 (λ e. ne (omega arith))

here : (c : ℕ) → c < 8 → (xs : List ℕ) (s t v : ℕ) → s < 512 → length xs ≡ 16449 → t ≡ s → get_or (set xs (8 * s + c) v) (8 * t + c) 0 ≡ v
here c q xs s t v l long e = ap (λ (z : ℕ). get_or (set xs (8 * s + c) v) (8 * z + c) 0) e ∙ get_or-set_same xs (8 * s + c) v 0 (omega arith)

module _ (D E F : Database) (r : ℕ) (k : Model.Column) (v : Cell) (catalog keys : List ℕ) (x : Linking D E F r k v catalog keys) (q : k.place < 8)
    (long : length catalog ≡ 16449) where
  abbrev c : ℕ
  c = k.place

  abbrev w : Without E F r
  w = x.without

  -- a store at r, and one at p and one at r: what the rows' next rows are then in G, if they are so in D and all but r and p keep theirs
  module _ (G : Database) where
    one_store : (n : ℕ) → n ≡ next_of G r c → ((s : ℕ) → (s ≡ r → ⊥) → next_of D s c ≡ next_of G s c) → Chained G c (set catalog (8 * r + c) n)
    one_store n e kept = record { at = λ s l. go s l (same_number s r) }
      where
        go : (s : ℕ) → s < 512 → (s ≡ r) ⊎ (s ≡ r → ⊥) → get_or (set catalog (8 * r + c) n) (8 * s + c) 0 ≡ next_of G s c
        go s l (inl z) = here c q catalog r s n w.bound long z ∙ e ∙ ap (λ (y : ℕ). next_of G y c) (sym z)
        go s l (inr z) = apart c q catalog r s n z ∙ x.chained.at s l ∙ kept s z

    two-stores : (p n m : ℕ) → p < r → n ≡ next_of G r c → m ≡ next_of G p c → ((s : ℕ) → (s ≡ r → ⊥) → (s ≡ p → ⊥) → next_of D s c ≡ next_of G s c)
        → (a b i j : ℕ) → ((a ≡ r) × (b ≡ p) × (i ≡ n) × (j ≡ m)) ⊎ ((a ≡ p) × (b ≡ r) × (i ≡ m) × (j ≡ n))
        → Chained G c (set (set catalog (8 * a + c) i) (8 * b + c) j)
    two-stores p n m l e f kept a b i j w' = record { at = λ s u. go s u w' (same_number s a) (same_number s b) }
      where
        long' : length (set catalog (8 * a + c) i) ≡ 16449
        long' = length-set catalog (8 * a + c) i ∙ long

        go : (s : ℕ) → s < 512 → ((a ≡ r) × (b ≡ p) × (i ≡ n) × (j ≡ m)) ⊎ ((a ≡ p) × (b ≡ r) × (i ≡ m) × (j ≡ n)) → (s ≡ a) ⊎ (s ≡ a → ⊥) → (s ≡ b) ⊎ (s ≡ b → ⊥)
            → get_or (set (set catalog (8 * a + c) i) (8 * b + c) j) (8 * s + c) 0 ≡ next_of G s c
        go s u (inl (y₀, y₁, y₂, y₃)) _ (inl z) =
            here c q (set catalog (8 * a + c) i) b s j (omega (arith, w.bound)) long' z ∙ y₃ ∙ f ∙ ap (λ (y : ℕ). next_of G y c) (sym (z ∙ y₁))
        go s u (inr (y₀, y₁, y₂, y₃)) _ (inl z) =
            here c q (set catalog (8 * a + c) i) b s j (omega (arith, w.bound)) long' z ∙ y₃ ∙ e ∙ ap (λ (y : ℕ). next_of G y c) (sym (z ∙ y₁))
        go s u (inl (y₀, y₁, y₂, y₃)) (inl z) (inr z') =
            apart c q (set catalog (8 * a + c) i) b s j z' ∙ here c q catalog a s i (omega (arith, w.bound)) long z ∙ y₂ ∙ e ∙ ap (λ (y : ℕ). next_of G y c) (sym (z ∙ y₀))
        go s u (inr (y₀, y₁, y₂, y₃)) (inl z) (inr z') =
            apart c q (set catalog (8 * a + c) i) b s j z' ∙ here c q catalog a s i (omega (arith, w.bound)) long z ∙ y₂ ∙ f ∙ ap (λ (y : ℕ). next_of G y c) (sym (z ∙ y₀))
        go s u (inl (y₀, y₁, y₂, y₃)) (inr z) (inr z') =
            apart c q (set catalog (8 * a + c) i) b s j z' ∙ apart c q catalog a s i z ∙ x.chained.at s u ∙ kept s (λ t. z (t ∙ sym y₀)) (λ t. z' (t ∙ sym y₁))
        go s u (inr (y₀, y₁, y₂, y₃)) (inr z) (inr z') =
            apart c q (set catalog (8 * a + c) i) b s j z' ∙ apart c q catalog a s i z ∙ x.chained.at s u ∙ kept s (λ t. z' (t ∙ sym y₁)) (λ t. z (t ∙ sym y₀))

-- ---- r comes, and goes

module _ (E F : Database) (r : ℕ) (k : Model.Column) (v : Cell) (catalog keys : List ℕ) (q : k.place < 8) (long : length catalog ≡ 16449) (h : ℕ)
    (f : h ≡ first_from 512 (has E k v) 0) where
  -- no row before it has its value
  pub comes-first : Linking E E F r k v catalog keys → r ≤ h → Chained F k.place (set catalog (8 * r + k.place) h)
  comes-first x l =
      one_store E E F r k v catalog keys x q long F h (f ∙ first_next E F r x.without k v x.value (omega arith))
      (λ s ne. next-kept-first E F r x.without k v x.value (omega arith) s ne)

  pub goes_first : Linking F E F r k v catalog keys → r ≤ h → Chained E k.place (set catalog (8 * r + k.place) 512)
  goes_first x l =
      one_store F E F r k v catalog keys x q long E 512 (sym (next-free E F r x.without k.place))
      (λ s ne. sym (next-kept-first E F r x.without k v x.value (omega arith) s ne))

  -- p is the last that has
  module _ (p : ℕ) where
    pub comes-behind : Linking E E F r k v catalog keys → Last (has E k v) r p
        → Chained F k.place (set (set catalog (8 * r + k.place) (get_or catalog (8 * p + k.place) 0)) (8 * p + k.place) r)
    comes-behind x l =
        let m = last-beside E F r x.without k v x.value p l in
        two-stores E E F r k v catalog keys x q long F p (get_or catalog (8 * p + k.place) 0) r l.below
        (x.chained.at p (omega (arith, l.below, x.without.bound)) ∙ last-past E F r x.without k v x.value p m)
        (sym (last-leads E F r x.without k v x.value p m)) (λ s ne np. next-kept-last E F r x.without k v x.value p m s ne np)
        r p _ r (inl (refl, refl, refl, refl))

    pub goes-behind : Linking F E F r k v catalog keys → Last (has F k v) r p
        → Chained E k.place (set (set catalog (8 * p + k.place) (get_or catalog (8 * r + k.place) 0)) (8 * r + k.place) 512)
    goes-behind x l =
        two-stores F E F r k v catalog keys x q long E p 512 (get_or catalog (8 * r + k.place) 0) l.below
        (sym (next-free E F r x.without k.place))
        (x.chained.at r x.without.bound ∙ sym (last-past E F r x.without k v x.value p l)) (λ s ne np. sym (next-kept-last E F r x.without k v x.value p l s ne np))
        p r _ 512 (inr (refl, refl, refl, refl))
