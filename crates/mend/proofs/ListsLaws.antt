-- A column's values where one row comes or goes. Assumes nothing.
use Prim.Native.Nat.{ℕ, ◌+◌, ◌-◌, ◌≤◌, ◌<◌}
use native.Mathlib.Decide.{dec_lt}
use native.Mathlib.Omega.{arith}
use mathlib.Core.Path.{◌≡◌, sym, ap, subst, ◌∙◌}
use mathlib.Core.Bool.{true, false, cond}
use mathlib.Core.List.{List}
use mathlib.Core.Logic.{◌⊎◌, inl, inr}
use borrow.Author.Tests.{lt-ltb, le-ltb, eq-eqb, ne_eqb}
use lib.Dec.{eqb, ltb}
use lib.ListN.{length, get_or, set}
use lib.Seq.{get_or-set_same, get_or-set_other}
use Rattle.finite.specs.Finite.{first_from}
use Rattle.finite.proofs.Bools.{clash, refute, same_number, order, cond-true, cond-false}
use Rattle.finite.proofs.First.{First, first-from, first-is, first-through}
use Rattle.model.specs.Cell.{Cell}
use Rattle.model.specs.Scheme as Model
use Rattle.model.specs.Database.{Database, has}
use Rattle.model.proofs.DatabaseLaws.{has-Has}
use Rattle.catalog.specs.Catalog.{next_of, key_of, value_of, Falls, Lists}
use Rattle.mend.specs.Changing.{Without}
use Rattle.catalog.specs.Listing.{Searched, Opened}
use Rattle.mend.proofs.BesideLaws.{has-beside, has-free, first-beside, first-beyond, first-with}
use Rattle.catalog.proofs.CatalogLaws.{next-has}
use Rattle.catalog.proofs.KeyLaws.{value-is}
use Rattle.catalog.proofs.ListedLaws.{one_place, has-own, has_above, has_key, has_other}
use Rattle.catalog.proofs.Searching.{searched-only}

-- ---- the values of a column at other places: place i + e of the old ones and place j + d of the new ones are one

module _ (D : Database) (k : Model.Column) (from to from' to' d e : ℕ) (keys heads keys' heads' : List ℕ) (p : from + e ≡ from' + d) (q : to + e ≡ to' + d)
    (b : to' ≤ 4096) (t : Lists D k from to keys heads) (K : (i j : ℕ) → from ≤ i → i < to → i + e ≡ j + d → get_or keys' j 0 ≡ get_or keys i 0)
    (H : (i j : ℕ) → from ≤ i → i < to → i + e ≡ j + d → get_or heads' j 0 ≡ get_or heads i 0) where
  key-at : (j : ℕ) → from' ≤ j → j < to' → get_or keys' j 0 ≡ get_or keys (j + d - e) 0
  key-at j u v = K (j + d - e) j (omega arith) (omega arith) (omega arith)

  pub lists-moved : Lists D k from' to' keys' heads'
  lists-moved =
      record {
        order = omega (arith, t.order);
        bound = b;
        falls = λ i j u v w. omega (arith, key-at i u (omega arith), key-at j (omega arith) w, t.falls (i + d - e) (j + d - e) (omega arith) (omega arith) (omega arith));
        value = λ j u v. omega (arith, key-at j u v, t.value (j + d - e) (omega arith) (omega arith));
        head = λ j u v. H (j + d - e) j (omega arith) (omega arith) (omega arith) ∙ t.head (j + d - e) (omega arith) (omega arith)
            ∙ ap (λ (y : ℕ). first_from 512 (has D k (value_of y)) 0) (sym (key-at j u v));
        there = λ s a h. let w = t.there s a h in
            (w.0 + e - d, omega (arith, w.1), omega (arith, w.2), K w.0 (w.0 + e - d) w.1 w.2 (omega (arith, w.1)) ∙ w.3);
      }

-- ---- E is F without row r

module _ (E F : Database) (r : ℕ) (w : Without E F r) (k : Model.Column) where
  -- every other row has the same in the column
  own-beside : (s : ℕ) → (s ≡ r → ⊥) → has E k (E.cell s k.place) s ≡ has F k (F.cell s k.place) s
  own-beside s ne = has-beside E F r w k (E.cell s k.place) s ne ∙ ap (λ (v : Cell). has F k v s) (w.cell s k.place ne)

  key-beside : (s : ℕ) → (s ≡ r → ⊥) → key_of (E.cell s k.place) ≡ key_of (F.cell s k.place)
  key-beside s ne = ap key_of (w.cell s k.place ne)

  -- what stands in the column in E is no row r
  not_free : (v : Cell) (s : ℕ) → has E k v s ≡ true → s ≡ r → ⊥
  not_free v s h e = clash (subst (λ (z : ℕ). has E k v z ≡ true) e h) (has-free E F r w k v)

  module _ (from to : ℕ) (keys heads : List ℕ) where
    -- row r has nothing in the column
    module _ (none : (v : Cell) → has F k v r ≡ false) where
      pub lists-comes-apart : Lists E k from to keys heads → Lists F k from to keys heads
      lists-comes-apart t =
          record {
            order = t.order;
            bound = t.bound;
            falls = t.falls;
            value = t.value;
            head = λ i a b. t.head i a b ∙ first-beside E F r w k _ (none _) 0;
            there = λ s a h. there s a h (same_number s r);
          }
        where
          there : (s : ℕ) → 0 ≤ s → has F k (F.cell s k.place) s ≡ true → (s ≡ r) ⊎ (s ≡ r → ⊥)
              → (i : ℕ) × (from ≤ i) × (i < to) × (get_or keys i 0 ≡ key_of (F.cell s k.place))
          there s a h (inl e) = clash (subst (λ (z : ℕ). has F k (F.cell z k.place) z ≡ true) e h) (none _)
          there s a h (inr ne) = let x = t.there s a (own-beside s ne ∙ h) in (x.0, x.1, x.2, x.3 ∙ key-beside s ne)

      pub lists-goes-apart : Lists F k from to keys heads → Lists E k from to keys heads
      lists-goes-apart t =
          record {
            order = t.order;
            bound = t.bound;
            falls = t.falls;
            value = t.value;
            head = λ i a b. t.head i a b ∙ sym (first-beside E F r w k _ (none _) 0);
            there = λ s a h. let ne = not_free _ s h in let x = t.there s a (sym (own-beside s ne) ∙ h) in (x.0, x.1, x.2, x.3 ∙ sym (key-beside s ne));
          }

    -- row r has the value with the key x
    module _ (x : ℕ) (h : has F k (value_of x) r ≡ true) where
      other-first : (y : ℕ) → (y ≡ x → ⊥) → first_from 512 (has E k (value_of y)) 0 ≡ first_from 512 (has F k (value_of y)) 0
      other-first y ne = first-beside E F r w k (value_of y) (has_other F k x y r h ne) 0

      -- the value's first row, with r and without it
      first-comes : (a : ℕ) → a ≡ first_from 512 (has E k (value_of x)) 0 → cond (ltb r a) r a ≡ first_from 512 (has F k (value_of x)) 0
      first-comes a e = go (order r a)
        where
          f : First 512 (has E k (value_of x)) 0 a
          f = subst (First 512 (has E k (value_of x)) 0) (sym e) (first-from 512 (has E k (value_of x)) 0 (omega arith))

          go : (r < a) ⊎ ((r ≡ a) ⊎ (a < r)) → cond (ltb r a) r a ≡ first_from 512 (has F k (value_of x)) 0
          go (inl l) =
              cond-true (ltb r a) r a (lt-ltb r a l) ∙ first-is 512 (has F k (value_of x)) 0 r
              (record {
                start = omega arith;
                bound = omega (arith, w.bound);
                none = λ s u v. sym (has-beside E F r w k (value_of x) s (λ q. omega arith)) ∙ f.none s u (omega arith);
                here = λ _. h;
              })
          go (inr (inl l)) = clash (subst (λ (z : ℕ). has E k (value_of x) z ≡ true) (sym l) (f.here (omega (arith, w.bound)))) (has-free E F r w k (value_of x))
          go (inr (inr l)) = cond-false (ltb r a) r a (le-ltb r a (omega arith)) ∙ first-with E F r w k (value_of x) a e l

      first_goes : (a n : ℕ) → a ≡ first_from 512 (has F k (value_of x)) 0 → n ≡ next_of F r k.place → cond (eqb a r) n a ≡ first_from 512 (has E k (value_of x)) 0
      first_goes a n e g = go (order a r)
        where
          f : First 512 (has F k (value_of x)) 0 a
          f = subst (First 512 (has F k (value_of x)) 0) (sym e) (first-from 512 (has F k (value_of x)) 0 (omega arith))

          without : (s : ℕ) → s < r + 1 → a ≡ r → (s ≡ r) ⊎ (s ≡ r → ⊥) → has E k (value_of x) s ≡ false
          without s l q (inl z) = subst (λ (y : ℕ). has E k (value_of x) y ≡ false) (sym z) (has-free E F r w k (value_of x))
          without s l q (inr z) = has-beside E F r w k (value_of x) s z ∙ f.none s (omega arith) (omega (arith, z))

          go : (a < r) ⊎ ((a ≡ r) ⊎ (r < a)) → cond (eqb a r) n a ≡ first_from 512 (has E k (value_of x)) 0
          go (inl l) =
              cond-false (eqb a r) n a (ne_eqb a r (λ q. omega arith)) ∙ first-is 512 (has E k (value_of x)) 0 a
              (record {
                start = omega arith;
                bound = f.bound;
                none = λ s u v. has-beside E F r w k (value_of x) s (λ q. omega arith) ∙ f.none s u v;
                here = λ b. has-beside E F r w k (value_of x) a (λ q. omega arith) ∙ f.here b;
              })
          go (inr (inl q)) =
              cond-true (eqb a r) n a (eq-eqb a r q) ∙ g ∙ next-has F k (value_of x) r h
              ∙ sym (first-beyond (has E k (value_of x)) (has F k (value_of x)) r (has-beside E F r w k (value_of x)) (r + 1) (omega arith))
              ∙ sym (first-through 512 (has E k (value_of x)) 0 (r + 1) (omega arith) (omega (arith, w.bound)) (λ s u v. without s v q (same_number s r)))
          go (inr (inr l)) = clash h (f.none r (omega arith) l)

      -- ---- a row comes

      comes-there : (s : ℕ) → has F k (F.cell s k.place) s ≡ true → (s ≡ r → ⊥) → Lists E k from to keys heads
          → (i : ℕ) × (from ≤ i) × (i < to) × (get_or keys i 0 ≡ key_of (F.cell s k.place))
      comes-there s g ne t = let y = t.there s (omega arith) (own-beside s ne ∙ g) in (y.0, y.1, y.2, y.3 ∙ key-beside s ne)

      own_key : (s : ℕ) → s ≡ r → key_of (F.cell s k.place) ≡ x
      own_key s e = ap (λ (z : ℕ). key_of (F.cell z k.place)) e ∙ has_key F k x r h

      module _ (t : Lists E k from to keys heads) where
        pub lists-met : (a : ℕ) → from ≤ a → a < to → get_or keys a 0 ≡ x → length heads ≡ 4096
            → Lists F k from to keys (set heads a (cond (ltb r (get_or heads a 0)) r (get_or heads a 0)))
        lists-met a p q z long =
            record {
              order = t.order;
              bound = t.bound;
              falls = t.falls;
              value = t.value;
              head = λ i u v. head i u v (same_number i a);
              there = λ s _ g. there s g (same_number s r);
            }
          where
            head : (i : ℕ) → from ≤ i → i < to → (i ≡ a) ⊎ (i ≡ a → ⊥)
                → get_or (set heads a (cond (ltb r (get_or heads a 0)) r (get_or heads a 0))) i 0 ≡ first_from 512 (has F k (value_of (get_or keys i 0))) 0
            head i u v (inl e) =
                ap (λ (y : ℕ). get_or (set heads a (cond (ltb r (get_or heads a 0)) r (get_or heads a 0))) y 0) e
                ∙ get_or-set_same heads a _ 0 (omega (arith, t.bound))
                ∙ first-comes (get_or heads a 0) (t.head a p q ∙ ap (λ (y : ℕ). first_from 512 (has E k (value_of y)) 0) z)
                ∙ ap (λ (y : ℕ). first_from 512 (has F k (value_of y)) 0) (sym (ap (λ (y : ℕ). get_or keys y 0) e ∙ z))
            head i u v (inr ne) =
                get_or-set_other heads a i _ 0 ne ∙ t.head i u v
                ∙ other-first (get_or keys i 0) (λ y. ne (one_place from to keys t.falls i a u v p q (y ∙ sym z)))

            there : (s : ℕ) → has F k (F.cell s k.place) s ≡ true → (s ≡ r) ⊎ (s ≡ r → ⊥)
                → (i : ℕ) × (from ≤ i) × (i < to) × (get_or keys i 0 ≡ key_of (F.cell s k.place))
            there s g (inl e) = (a, p, q, z ∙ sym (own_key s e))
            there s g (inr ne) = comes-there s g ne t

        module _ (a m : ℕ) (seat : Searched from to x a a keys) (other : a < to → get_or keys a 0 ≡ x → ⊥) (keys' heads' : List ℕ) (K : Opened a m x keys keys')
            (H : Opened a m r heads heads') (l : to ≤ m) (b : m < 4096) where
          absent : (i : ℕ) → from ≤ i → i < to → get_or keys i 0 ≡ x → ⊥
          absent i u v e =
              let o = searched-only from to x keys a t.falls seat i u v e in
              other (omega arith) (ap (λ (z : ℕ). get_or keys z 0) (sym o) ∙ e)

          -- what stands at place i before a, at a, and behind a
          at_key : (i : ℕ) → i ≡ a → get_or keys' i 0 ≡ x
          at_key i e = ap (λ (z : ℕ). get_or keys' z 0) e ∙ K.here

          behind-key : (i : ℕ) → a < i → i < to + 1 → get_or keys' i 0 ≡ get_or keys (i - 1) 0
          behind-key i u v =
              let e : i - 1 + 1 ≡ i = omega arith in
              ap (λ (z : ℕ). get_or keys' z 0) (sym e) ∙ K.moves.moved (i - 1) (omega arith) (omega arith)

          behind-head : (i : ℕ) → a < i → i < to + 1 → get_or heads' i 0 ≡ get_or heads (i - 1) 0
          behind-head i u v =
              let e : i - 1 + 1 ≡ i = omega arith in
              ap (λ (z : ℕ). get_or heads' z 0) (sym e) ∙ H.moves.moved (i - 1) (omega arith) (omega arith)

          falls : Falls from (to + 1) keys'
          falls i j p q v = go (order i a) (order j a)
            where
              go : (i < a) ⊎ ((i ≡ a) ⊎ (a < i)) → (j < a) ⊎ ((j ≡ a) ⊎ (a < j)) → get_or keys' j 0 < get_or keys' i 0
              go (inl c) (inl d) = omega (arith, K.moves.below i c, K.moves.below j d, t.falls i j p q (omega (arith, seat.end)))
              go (inl c) (inr (inl d)) = omega (arith, K.moves.below i c, at_key j d, seat.above i p c)
              go (inl c) (inr (inr d)) = omega (arith, K.moves.below i c, behind-key j d v, t.falls i (j - 1) p (omega arith) (omega arith))
              go (inr (inl c)) (inl d) = absurd (omega arith)
              go (inr (inl c)) (inr (inl d)) = absurd (omega arith)
              go (inr (inl c)) (inr (inr d)) =
                  omega (
                    arith,
                    at_key i c,
                    behind-key j d v,
                    seat.below (j - 1) (omega arith) (omega arith),
                    absent (j - 1) (omega (arith, seat.start)) (omega arith),
                  )
              go (inr (inr c)) (inl d) = absurd (omega arith)
              go (inr (inr c)) (inr (inl d)) = absurd (omega arith)
              go (inr (inr c)) (inr (inr d)) =
                  omega (arith, behind-key i c (omega arith), behind-key j d v, t.falls (i - 1) (j - 1) (omega (arith, seat.start)) (omega arith) (omega arith))

          value : (i : ℕ) → from ≤ i → i < to + 1 → (i < a) ⊎ ((i ≡ a) ⊎ (a < i)) → 0 < get_or keys' i 0
          value i p v (inl c) = omega (arith, K.moves.below i c, t.value i p (omega (arith, seat.end)))
          value i p v (inr (inl c)) = omega (arith, at_key i c, has_above F k x r h)
          value i p v (inr (inr c)) = omega (arith, behind-key i c v, t.value (i - 1) (omega (arith, seat.start)) (omega arith))

          -- the first row of an old value
          old : (i j : ℕ) → from ≤ j → j < to → get_or heads' i 0 ≡ get_or heads j 0 → get_or keys' i 0 ≡ get_or keys j 0
              → get_or heads' i 0 ≡ first_from 512 (has F k (value_of (get_or keys' i 0))) 0
          old i j c d f g =
              f ∙ t.head j c d ∙ other-first (get_or keys j 0) (absent j c d) ∙ ap (λ (y : ℕ). first_from 512 (has F k (value_of y)) 0) (sym g)

          head : (i : ℕ) → from ≤ i → i < to + 1 → (i < a) ⊎ ((i ≡ a) ⊎ (a < i)) → get_or heads' i 0 ≡ first_from 512 (has F k (value_of (get_or keys' i 0))) 0
          head i p v (inl c) = old i i p (omega (arith, seat.end)) (H.moves.below i c) (K.moves.below i c)
          head i p v (inr (inl c)) =
              ap (λ (z : ℕ). get_or heads' z 0) c ∙ H.here ∙ first-is 512 (has F k (value_of x)) 0 r
              (record { start = omega arith; bound = omega (arith, w.bound); none = λ s u y. first s y; here = λ _. h })
              ∙ ap (λ (y : ℕ). first_from 512 (has F k (value_of y)) 0) (sym (at_key i c))
            where
              first : (s : ℕ) → s < r → has F k (value_of x) s ≡ false
              first s y =
                  refute (has F k (value_of x) s) (λ g. let ne : s ≡ r → ⊥ = λ e. omega arith in
                  let z = comes-there s (has-own F k (value_of x) s g) ne t in absent z.0 z.1 z.2 (z.3 ∙ has_key F k x s g))
          head i p v (inr (inr c)) = old i (i - 1) (omega (arith, seat.start)) (omega arith) (behind-head i c v) (behind-key i c v)

          there : (s : ℕ) → has F k (F.cell s k.place) s ≡ true → (s ≡ r) ⊎ (s ≡ r → ⊥)
              → (i : ℕ) × (from ≤ i) × (i < to + 1) × (get_or keys' i 0 ≡ key_of (F.cell s k.place))
          there s g (inl e) = (a, seat.start, omega (arith, seat.end), K.here ∙ sym (own_key s e))
          there s g (inr ne) = go (comes-there s g ne t)
            where
              go : (i : ℕ) × (from ≤ i) × (i < to) × (get_or keys i 0 ≡ key_of (F.cell s k.place))
                  → (i : ℕ) × (from ≤ i) × (i < to + 1) × (get_or keys' i 0 ≡ key_of (F.cell s k.place))
              go (i, p, v, z) = at (dec_lt i a)
                where
                  at : Dec (i < a) → (j : ℕ) × (from ≤ j) × (j < to + 1) × (get_or keys' j 0 ≡ key_of (F.cell s k.place))
                  at (yes c) = (i, p, omega arith, K.moves.below i c ∙ z)
                  at (no c) = (i + 1, omega arith, omega arith, K.moves.moved i (omega arith) (omega arith) ∙ z)

          pub lists-opens : Lists F k from (to + 1) keys' heads'
          lists-opens =
              record {
                order = omega (arith, t.order);
                bound = omega arith;
                falls = falls;
                value = λ i p v. value i p v (order i a);
                head = λ i p v. head i p v (order i a);
                there = λ s _ g. there s g (same_number s r);
              }

      -- ---- a row goes, whose next row is n

      module _ (t : Lists F k from to keys heads) (a n : ℕ) (p : from ≤ a) (q : a < to) (z : get_or keys a 0 ≡ x) (g : n ≡ next_of F r k.place) where
        only : (i : ℕ) → from ≤ i → i < to → (i ≡ a → ⊥) → get_or keys i 0 ≡ x → ⊥
        only i u v ne y = ne (one_place from to keys t.falls i a u v p q (y ∙ sym z))

        pub lists-stays : length heads ≡ 4096 → Lists E k from to keys (set heads a (cond (eqb (get_or heads a 0) r) n (get_or heads a 0)))
        lists-stays long =
            record {
              order = t.order;
              bound = t.bound;
              falls = t.falls;
              value = t.value;
              head = λ i u v. head i u v (same_number i a);
              there = λ s u y. let ne = not_free _ s y in let f = t.there s u (sym (own-beside s ne) ∙ y) in (f.0, f.1, f.2, f.3 ∙ sym (key-beside s ne));
            }
          where
            head : (i : ℕ) → from ≤ i → i < to → (i ≡ a) ⊎ (i ≡ a → ⊥)
                → get_or (set heads a (cond (eqb (get_or heads a 0) r) n (get_or heads a 0))) i 0 ≡ first_from 512 (has E k (value_of (get_or keys i 0))) 0
            head i u v (inl e) =
                ap (λ (y : ℕ). get_or (set heads a (cond (eqb (get_or heads a 0) r) n (get_or heads a 0))) y 0) e
                ∙ get_or-set_same heads a _ 0 (omega (arith, t.bound))
                ∙ first_goes (get_or heads a 0) n (t.head a p q ∙ ap (λ (y : ℕ). first_from 512 (has F k (value_of y)) 0) z) g
                ∙ ap (λ (y : ℕ). first_from 512 (has E k (value_of y)) 0) (sym (ap (λ (y : ℕ). get_or keys y 0) e ∙ z))
            head i u v (inr ne) = get_or-set_other heads a i _ 0 ne ∙ t.head i u v ∙ sym (other-first (get_or keys i 0) (only i u v ne))

        -- no other row has the value
        module _ (m : ℕ) (first : get_or heads a 0 ≡ r) (last : 512 ≤ n) (keys' heads' : List ℕ) (K : Opened a m x keys' keys) (H : Opened a m r heads' heads) (l : to ≤ m + 1)
            (narrow : (s : ℕ) → (F.cell s k.place).issue < 256) where
          -- where the elements stood
          before-key : (i : ℕ) → i < a → get_or keys' i 0 ≡ get_or keys i 0
          before-key i c = sym (K.moves.below i c)

          before_head : (i : ℕ) → i < a → get_or heads' i 0 ≡ get_or heads i 0
          before_head i c = sym (H.moves.below i c)

          after-key : (i : ℕ) → a ≤ i → i < to - 1 → get_or keys' i 0 ≡ get_or keys (i + 1) 0
          after-key i c v = sym (K.moves.moved i c (omega arith))

          after-head : (i : ℕ) → a ≤ i → i < to - 1 → get_or heads' i 0 ≡ get_or heads (i + 1) 0
          after-head i c v = sym (H.moves.moved i c (omega arith))

          alone : (s : ℕ) → has F k (value_of x) s ≡ true → s ≡ r
          alone s y = go (order s r)
            where
              f : First 512 (has F k (value_of x)) 0 r
              f =
                  subst (First 512 (has F k (value_of x)) 0) (sym (sym first ∙ t.head a p q ∙ ap (λ (u : ℕ). first_from 512 (has F k (value_of u)) 0) z))
                  (first-from 512 (has F k (value_of x)) 0 (omega arith))

              b : First 512 (has F k (value_of x)) (r + 1) n
              b = subst (First 512 (has F k (value_of x)) (r + 1)) (sym (g ∙ next-has F k (value_of x) r h)) (first-from 512 (has F k (value_of x)) (r + 1) (omega (arith, w.bound)))

              go : (s < r) ⊎ ((s ≡ r) ⊎ (r < s)) → s ≡ r
              go (inl c) = clash y (f.none s (omega arith) c)
              go (inr (inl c)) = c
              go (inr (inr c)) = clash y (b.none s (omega arith) (omega (arith, F.finite s (has-Has F k (value_of x) s y).live, w.size-with)))

          closes-falls : Falls from (to - 1) keys'
          closes-falls i j u v o = go (dec_lt i a) (dec_lt j a)
            where
              go : Dec (i < a) → Dec (j < a) → get_or keys' j 0 < get_or keys' i 0
              go (yes c) (yes d) = omega (arith, before-key i c, before-key j d, t.falls i j u v (omega arith))
              go (yes c) (no d) = omega (arith, before-key i c, after-key j (omega arith) o, t.falls i (j + 1) u (omega arith) (omega arith))
              go (no c) (yes d) = absurd (omega arith)
              go (no c) (no d) =
                  omega (arith, after-key i (omega arith) (omega arith), after-key j (omega arith) o, t.falls (i + 1) (j + 1) (omega arith) (omega arith) (omega arith))

          closes-value : (i : ℕ) → from ≤ i → i < to - 1 → Dec (i < a) → 0 < get_or keys' i 0
          closes-value i u v (yes c) = omega (arith, before-key i c, t.value i u (omega arith))
          closes-value i u v (no c) = omega (arith, after-key i (omega arith) v, t.value (i + 1) (omega arith) (omega arith))

          closes-old : (i j : ℕ) → from ≤ j → j < to → (j ≡ a → ⊥) → get_or heads' i 0 ≡ get_or heads j 0 → get_or keys' i 0 ≡ get_or keys j 0
              → get_or heads' i 0 ≡ first_from 512 (has E k (value_of (get_or keys' i 0))) 0
          closes-old i j c d ne e f =
              e ∙ t.head j c d ∙ sym (other-first (get_or keys j 0) (only j c d ne)) ∙ ap (λ (y : ℕ). first_from 512 (has E k (value_of y)) 0) (sym f)

          closes-head : (i : ℕ) → from ≤ i → i < to - 1 → Dec (i < a) → get_or heads' i 0 ≡ first_from 512 (has E k (value_of (get_or keys' i 0))) 0
          closes-head i u v (yes c) = closes-old i i u (omega arith) (λ e. omega arith) (before_head i c) (before-key i c)
          closes-head i u v (no c) = closes-old i (i + 1) (omega arith) (omega arith) (λ e. omega arith) (after-head i (omega arith) v) (after-key i (omega arith) v)

          closes-there : (s : ℕ) → has E k (E.cell s k.place) s ≡ true → (i : ℕ) × (from ≤ i) × (i < to - 1) × (get_or keys' i 0 ≡ key_of (E.cell s k.place))
          closes-there s y = go (t.there s (omega arith) (sym (own-beside s ne) ∙ y))
            where
              ne : s ≡ r → ⊥
              ne = not_free _ s y

              go : (i : ℕ) × (from ≤ i) × (i < to) × (get_or keys i 0 ≡ key_of (F.cell s k.place))
                  → (i : ℕ) × (from ≤ i) × (i < to - 1) × (get_or keys' i 0 ≡ key_of (E.cell s k.place))
              go (i, u, v, e) = at (order i a)
                where
                  -- it is not the value that goes
                  not-x : get_or keys i 0 ≡ x → ⊥
                  not-x o =
                      ne (alone s (ap (λ (c : Cell). has F k c s) (value-is (F.cell s k.place) x (sym o ∙ e, narrow s)) ∙ sym (own-beside s ne) ∙ y))

                  at : (i < a) ⊎ ((i ≡ a) ⊎ (a < i)) → (j : ℕ) × (from ≤ j) × (j < to - 1) × (get_or keys' j 0 ≡ key_of (E.cell s k.place))
                  at (inl c) = (i, u, omega arith, before-key i c ∙ e ∙ sym (key-beside s ne))
                  at (inr (inl c)) = absurd (not-x (ap (λ (o : ℕ). get_or keys o 0) c ∙ z))
                  at (inr (inr c)) =
                      let o : i - 1 + 1 ≡ i = omega arith in
                      (i - 1, omega arith, omega arith, after-key (i - 1) (omega arith) (omega arith) ∙ ap (λ (b : ℕ). get_or keys b 0) o ∙ e ∙ sym (key-beside s ne))

          pub lists-closes : Lists E k from (to - 1) keys' heads'
          lists-closes =
              record {
                order = omega arith;
                bound = omega (arith, t.bound);
                falls = closes-falls;
                value = λ i u v. closes-value i u v (dec_lt i a);
                head = λ i u v. closes-head i u v (dec_lt i a);
                there = λ s _ y. closes-there s y;
              }
