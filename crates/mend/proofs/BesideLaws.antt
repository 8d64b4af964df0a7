-- Two databases that differ by row r: which rows have a value, the first that has, and the next rows. Assumes nothing.
use Prim.Native.Nat.{ℕ, ◌+◌, ◌≤◌, ◌<◌}
use native.Mathlib.Decide.{dec_lt}
use native.Mathlib.Omega.{arith}
use mathlib.Core.Path.{◌≡◌, refl, sym, ap, ap₂, subst, ◌∙◌}
use mathlib.Core.Bool.{Bool, true, false, ◌&&◌}
use mathlib.Core.Logic.{◌⊎◌, inl, inr}
use lib.Dec.{eqb}
use Rattle.finite.specs.Finite.{first_from}
use Rattle.finite.proofs.Bools.{dec, clash, refute, same_number, order, cond-true, cond-false}
use Rattle.finite.proofs.First.{First, first-from, first-is, first-same, first-through}
use Rattle.model.specs.Cell.{Cell, equal}
use Rattle.model.specs.Scheme as Model
use Rattle.model.specs.Database.{Database, has}
use Rattle.catalog.specs.Catalog.{column_at, next_of}
use Rattle.mend.specs.Changing.{Without, Last}
use Rattle.catalog.proofs.CatalogLaws.{has-table, has-cell, next-has}
use Rattle.catalog.proofs.Rows.{has-dead, next-none}

-- ---- two tests that pass alike but at r

module _ (p q : ℕ → Bool) (r : ℕ) (same : (s : ℕ) → (s ≡ r → ⊥) → p s ≡ q s) where
  -- at r too
  pub first_alike : p r ≡ q r → (i : ℕ) → first_from 512 p i ≡ first_from 512 q i
  first_alike e i = first-same 512 p q i (λ s _ _. go s (same_number s r))
    where
      go : (s : ℕ) → (s ≡ r) ⊎ (s ≡ r → ⊥) → p s ≡ q s
      go s (inl h) = subst (λ (z : ℕ). p z ≡ q z) (sym h) e
      go s (inr h) = same s h

  -- from behind r on
  pub first-beyond : (i : ℕ) → r < i → first_from 512 p i ≡ first_from 512 q i
  first-beyond i l = first-same 512 p q i (λ s a _. same s (λ e. omega arith))

  -- where one before r passes
  pub first-near : (i x : ℕ) → i ≤ x → x < r → r < 512 → p x ≡ true → first_from 512 p i ≡ first_from 512 q i
  first-near i x a b l h = first-is 512 q i (first_from 512 p i) (record { start = f.start; bound = f.bound; none = λ s u v. sym (same s (λ e. omega (arith, near))) ∙ f.none s u v; here = λ g. sym (same (first_from 512 p i) (λ e. omega (arith, near))) ∙ f.here g })
    where
      f : First 512 p i (first_from 512 p i)
      f = first-from 512 p i (omega arith)

      near : first_from 512 p i ≤ x
      near = go (dec_lt x (first_from 512 p i))
        where
          go : Dec (x < first_from 512 p i) → first_from 512 p i ≤ x
          go (yes m) = clash h (f.none x a m)
          go (no m) = omega arith

-- ---- E is F without row r

module _ (E F : Database) (r : ℕ) (w : Without E F r) where
  -- every other row has the same
  pub has-beside : (k : Model.Column) (v : Cell) (s : ℕ) → (s ≡ r → ⊥) → has E k v s ≡ has F k v s
  unfolding has
  has-beside k v s ne =
      ap₂ (λ (b : Bool) (t : ℕ). b && (eqb t k.table && equal (E.cell s k.place) v)) (w.live s ne) (w.table s ne)
      ∙ ap (λ (x : Cell). F.live s && (eqb (F.table s) k.table && equal x v)) (w.cell s k.place ne)

  -- row r has nothing in E
  pub has-free : (k : Model.Column) (v : Cell) → has E k v r ≡ false
  has-free k v = has-dead E k.table k.place r w.free v

  -- its next rows there
  pub next-free : (c : ℕ) → next_of E r c ≡ 512
  next-free c = next-none E (E.table r) c r refl (has-dead E (E.table r) c r w.free)

  -- where row r has not the value, the first rows that have it are the same
  pub first-beside : (k : Model.Column) (v : Cell) → has F k v r ≡ false → (i : ℕ) → first_from 512 (has E k v) i ≡ first_from 512 (has F k v) i
  first-beside k v h i = first_alike (has E k v) (has F k v) r (has-beside k v) (has-free k v ∙ sym h) i

  -- ---- next rows in place c

  -- row s's cell c, in E and in F
  own-column : (s c : ℕ) → (s ≡ r → ⊥) → (t : ℕ) → has F (column_at F s c) (F.cell s c) t ≡ has F (column_at E s c) (E.cell s c) t
  own-column s c ne t =
      sym (ap₂ (λ (u : ℕ) (x : Cell). has F (record { table = u; place = c }) x t) (w.table s ne) (w.cell s c ne))

  -- a row keeps its next row, unless that is r
  module _ (s c : ℕ) (ne : s ≡ r → ⊥) where
    abbrev k : Model.Column
    k = column_at E s c

    abbrev v : Cell
    v = E.cell s c

    next-kept-by : (first_from 512 (has E k v) (s + 1) ≡ first_from 512 (has F k v) (s + 1)) → next_of E s c ≡ next_of F s c
    unfolding next_of
    next-kept-by e = go (dec (has E k v s))
      where
        q : has F (column_at F s c) (F.cell s c) s ≡ has E k v s
        q = own-column s c ne s ∙ sym (has-beside k v s ne)

        go : (has E k v s ≡ true) ⊎ (has E k v s ≡ false) → next_of E s c ≡ next_of F s c
        go (inl h) =
            cond-true _ _ 512 h ∙ e ∙ first-same 512 _ _ (s + 1) (λ t _ _. sym (own-column s c ne t)) ∙ sym (cond-true _ _ 512 (q ∙ h))
        go (inr h) = cond-false _ _ 512 h ∙ sym (cond-false _ _ 512 (q ∙ h))

    -- row r has another value, or none, or stands before s
    pub next-apart : has F k v r ≡ false → next_of E s c ≡ next_of F s c
    next-apart h = next-kept-by (first-beside k v h (s + 1))

    pub next-after : r < s → next_of E s c ≡ next_of F s c
    next-after l = next-kept-by (first-beyond (has E k v) (has F k v) r (has-beside k v) (s + 1) (omega arith))

    -- another row that has the value stands between the two
    pub next-between : (x : ℕ) → s < x → x < r → has F k v x ≡ true → next_of E s c ≡ next_of F s c
    next-between x a b h =
        next-kept-by (first-near (has E k v) (has F k v) r (has-beside k v) (s + 1) x (omega arith) b w.bound (has-beside k v x (λ e. omega arith) ∙ h))

  -- nothing changes in a place where row r has no value
  pub next-blank : (c : ℕ) → ((k : Model.Column) → k.place ≡ c → (v : Cell) → has F k v r ≡ false) → (s : ℕ) → next_of E s c ≡ next_of F s c
  next-blank c none s = go (same_number s r)
    where
      go : (s ≡ r) ⊎ (s ≡ r → ⊥) → next_of E s c ≡ next_of F s c
      go (inl e) =
          subst (λ (z : ℕ). next_of E z c ≡ next_of F z c) (sym e)
          (next-free c ∙ sym (next-none F (F.table r) c r refl (none (record { table = F.table r; place = c }) refl)))
      go (inr ne) = next-apart s c ne (none (column_at E s c) refl (E.cell s c))

  -- ---- row r has the value v in column k of F
  module _ (k : Model.Column) (v : Cell) (h : has F k v r ≡ true) where
    -- the rows before r that have it
    pub last-beside : (p : ℕ) → Last (has E k v) r p → Last (has F k v) r p
    last-beside p l =
        record {
          below = l.below;
          here = sym (has-beside k v p (λ e. omega (arith, l.below))) ∙ l.here;
          none = λ s a b. sym (has-beside k v s (λ e. omega arith)) ∙ l.none s a b;
        }

    next-with : next_of F r k.place ≡ first_from 512 (has E k v) (r + 1)
    next-with = next-has F k v r h ∙ sym (first-beyond (has E k v) (has F k v) r (has-beside k v) (r + 1) (omega arith))

    -- no row before r has it: the first of the others is r's next row
    pub first_next : r ≤ first_from 512 (has E k v) 0 → first_from 512 (has E k v) 0 ≡ next_of F r k.place
    first_next l =
        first-through 512 (has E k v) 0 (r + 1) (omega arith) (omega (arith, w.bound)) (λ s a b. go s b (same_number s r)) ∙ sym next-with
      where
        go : (s : ℕ) → s < r + 1 → (s ≡ r) ⊎ (s ≡ r → ⊥) → has E k v s ≡ false
        go s b (inl e) = subst (λ (z : ℕ). has E k v z ≡ false) (sym e) (has-free k v)
        go s b (inr ne) = (first-from 512 (has E k v) 0 (omega arith)).none s (omega arith) (omega (arith, ne))

    module _ (p : ℕ) (l : Last (has F k v) r p) where
      -- the last row before r that has it leads to r in F
      pub last-leads : next_of F p k.place ≡ r
      last-leads =
          next-has F k v p l.here ∙ sym (first-is 512 (has F k v) (p + 1) r
          (record { start = omega (arith, l.below); bound = omega (arith, w.bound); none = λ s a b. l.none s (omega arith) b; here = λ _. h }))

      -- ... and past it in E
      pub last-past : next_of E p k.place ≡ next_of F r k.place
      last-past =
          next-has E k v p (has-beside k v p (λ e. omega (arith, l.below)) ∙ l.here)
          ∙ first-through 512 (has E k v) (p + 1) (r + 1) (omega (arith, l.below)) (omega (arith, w.bound)) (λ s a b. go s a b (same_number s r)) ∙ sym next-with
        where
          go : (s : ℕ) → p + 1 ≤ s → s < r + 1 → (s ≡ r) ⊎ (s ≡ r → ⊥) → has E k v s ≡ false
          go s a b (inl e) = subst (λ (z : ℕ). has E k v z ≡ false) (sym e) (has-free k v)
          go s a b (inr ne) = has-beside k v s ne ∙ l.none s (omega arith) (omega (arith, ne))

    -- a row that has r's value in its own cell has it in column k
    module _ (s : ℕ) (ne : s ≡ r → ⊥) (g : has F (column_at E s k.place) (E.cell s k.place) r ≡ true) where
      own_is : (t : ℕ) → has F (column_at E s k.place) (E.cell s k.place) t ≡ has F k v t
      own_is t =
          ap₂ (λ (u : ℕ) (x : Cell). has F (record { table = u; place = k.place }) x t)
          (sym (has-table F (column_at E s k.place) (E.cell s k.place) r g) ∙ has-table F k v r h)
          (sym (has-cell F (column_at E s k.place) (E.cell s k.place) r g) ∙ has-cell F k v r h)

    -- every row but r and the last before it keeps its next row
    pub next-kept : (s : ℕ) → (s ≡ r → ⊥) → (s < r → has F k v s ≡ true → (x : ℕ) × (s < x) × (x < r) × (has F k v x ≡ true)) → next_of E s k.place ≡ next_of F s k.place
    next-kept s ne between = go (dec (has F (column_at E s k.place) (E.cell s k.place) r)) (order s r)
      where
        go : (has F (column_at E s k.place) (E.cell s k.place) r ≡ true) ⊎ (has F (column_at E s k.place) (E.cell s k.place) r ≡ false)
            → (s < r) ⊎ ((s ≡ r) ⊎ (r < s)) → next_of E s k.place ≡ next_of F s k.place
        go (inr g) _ = next-apart s k.place ne g
        go (inl g) (inl l) = own g l (dec (has F k v s))
          where
            own : has F (column_at E s k.place) (E.cell s k.place) r ≡ true → s < r → (has F k v s ≡ true) ⊎ (has F k v s ≡ false) → next_of E s k.place ≡ next_of F s k.place
            own g l (inl u) =
                let b = between l u in
                next-between s k.place ne b.0 b.1 b.2 (own_is s ne g b.0 ∙ b.3)
            own g l (inr u) =
                next-none E (E.table s) k.place s refl (λ x. refute (has E (record { table = E.table s; place = k.place }) x s) (λ y. clash (yes x y) u))
                ∙ sym (next-none F (E.table s) k.place s (sym (w.table s ne)) (λ x. refute (has F (record { table = E.table s; place = k.place }) x s) (λ y. clash (yes x (has-beside _ x s ne ∙ y)) u)))
              where
                yes : (x : Cell) → has E (record { table = E.table s; place = k.place }) x s ≡ true → has F k v s ≡ true
                yes x y =
                    sym (own_is s ne g s) ∙ sym (has-beside _ _ s ne)
                    ∙ ap (λ (z : Cell). has E (record { table = E.table s; place = k.place }) z s) (has-cell E (record { table = E.table s; place = k.place }) x s y) ∙ y
        go (inl g) (inr (inl e)) = absurd (ne e)
        go (inl g) (inr (inr l)) = next-after s k.place ne l

    -- none has it before r
    pub next-kept-first : r ≤ first_from 512 (has E k v) 0 → (s : ℕ) → (s ≡ r → ⊥) → next_of E s k.place ≡ next_of F s k.place
    next-kept-first f s ne =
        next-kept s ne (λ l u. clash u (sym (has-beside k v s ne) ∙ (first-from 512 (has E k v) 0 (omega arith)).none s (omega arith) (omega arith)))

    -- p is the last that has
    pub next-kept-last : (p : ℕ) → Last (has F k v) r p → (s : ℕ) → (s ≡ r → ⊥) → (s ≡ p → ⊥) → next_of E s k.place ≡ next_of F s k.place
    next-kept-last p l s ne np = next-kept s ne (λ a u. (p, go a u (order s p), l.below, l.here))
      where
        go : s < r → has F k v s ≡ true → (s < p) ⊎ ((s ≡ p) ⊎ (p < s)) → s < p
        go a u (inl b) = b
        go a u (inr (inl b)) = absurd (np b)
        go a u (inr (inr b)) = clash u (l.none s b a)

  -- the first row that has the value in E, before r, is the first in F
  pub first-with : (k : Model.Column) (v : Cell) (h : ℕ) → h ≡ first_from 512 (has E k v) 0 → h < r → h ≡ first_from 512 (has F k v) 0
  first-with k v h f l =
      f ∙ first-near (has E k v) (has F k v) r (has-beside k v) 0 h (omega arith) l w.bound
      (subst (λ (z : ℕ). has E k v z ≡ true) (sym f) ((first-from 512 (has E k v) 0 (omega arith)).here (omega (arith, f, w.bound))))
