-- A column's values while its rows are put in: a row's value is found or entered, and a value that is not there no row has. Assumes nothing.
use Prim.Native.Nat.{ℕ, ◌+◌, ◌-◌, ◌≤◌, ◌<◌}
use native.Mathlib.Decide.{dec_lt}
use native.Mathlib.Omega.{arith}
use mathlib.Core.Path.{◌≡◌, refl, sym, ap, subst, ◌∙◌}
use mathlib.Core.Bool.{true, false}
use mathlib.Core.List.{List}
use mathlib.Core.Logic.{◌⊎◌, inl, inr, ⊎_elim}
use lib.ListN.{length, get_or, set}
use lib.Seq.{get_or-set_same, get_or-set_other}
use Rattle.finite.proofs.Bools.{clash, refute, same_number, order}
use Rattle.model.specs.Cell.{Cell}
use Rattle.model.specs.Database.{Database, has}
use Rattle.model.proofs.DatabaseLaws.{has-Has, has-full}
use Rattle.model.specs.Scheme as Model
use Rattle.finite.specs.Finite.{first_from}
use Rattle.catalog.specs.Catalog.{key_of, value_of, Falls, Listed}
use Rattle.catalog.specs.Listing.{Known, New, Entered}
use Rattle.finite.proofs.First.{first-here, first-skip, first-none}
use Rattle.catalog.proofs.Searching.{searched-only}
use Rattle.catalog.proofs.CatalogLaws.{has-cell}
use Rattle.catalog.proofs.KeyLaws.{key-value, value_none}

-- falling keys differ
pub one_place : (from to : ℕ) (keys : List ℕ) → Falls from to keys → (i j : ℕ) → from ≤ i → i < to → from ≤ j → j < to → get_or keys i 0 ≡ get_or keys j 0 → i ≡ j
one_place from to keys f i j a b c d e = go (order i j)
  where
    go : (i < j) ⊎ ((i ≡ j) ⊎ (j < i)) → i ≡ j
    go (inl h) = absurd (omega (arith, f i j a h d))
    go (inr (inl h)) = h
    go (inr (inr h)) = absurd (omega (arith, f j i c h b))

module _ (D : Database) (k : Model.Column) where
  -- a row has its own cell
  pub has-own : (v : Cell) (s : ℕ) → has D k v s ≡ true → has D k (D.cell s k.place) s ≡ true
  has-own v s e = subst (λ (w : Cell). has D k w s ≡ true) (sym (has-cell D k v s e)) e

  -- ... whose key is not 0
  pub has_above : (x s : ℕ) → has D k (value_of x) s ≡ true → 0 < x
  has_above x s e =
      ⊎_elim (λ (q : x ≡ 0). clash (value_none x q) (has-full (has-Has D k (value_of x) s e))) (λ (q : x ≡ 0 → ⊥). omega (arith, q)) (same_number x 0)

  -- ... whose key is the value's
  pub has_key : (x s : ℕ) → has D k (value_of x) s ≡ true → key_of (D.cell s k.place) ≡ x
  has_key x s e = ap key_of (has-cell D k (value_of x) s e) ∙ key-value x

  -- a row has one value
  pub has_other : (x y s : ℕ) → has D k (value_of x) s ≡ true → (y ≡ x → ⊥) → has D k (value_of y) s ≡ false
  has_other x y s e ne =
      refute (has D k (value_of y) s) (λ h. ne (sym (has_key y s h) ∙ has_key x s e))

  module _ (r from to : ℕ) (keys heads : List ℕ) (t : Listed D k r from to keys heads) where
    -- what is not there no row has
    pub listed-miss : (x : ℕ) → ((i : ℕ) → from ≤ i → i < to → get_or keys i 0 ≡ x → ⊥) → first_from 512 (has D k (value_of x)) r ≡ 512
    listed-miss x absent = first-none 512 _ r (λ s a b. refute (has D k (value_of x) s) (λ e. out s a e))
      where
        out : (s : ℕ) → r ≤ s → has D k (value_of x) s ≡ true → ⊥
        out s a e =
            let w = t.there s a (has-own (value_of x) s e) in
            absent w.0 w.1 w.2 (w.3 ∙ has_key x s e)

    -- what is there has its first row
    pub listed-hit : (x i : ℕ) → from ≤ i → i < to → get_or keys i 0 ≡ x → get_or heads i 0 ≡ first_from 512 (has D k (value_of x)) r
    listed-hit x i a b e = t.head i a b ∙ ap (λ (y : ℕ). first_from 512 (has D k (value_of y)) r) e

    -- a list with the same keys and heads
    pub listed_same : (keys' heads' : List ℕ) → ((i : ℕ) → i < to → get_or keys' i 0 ≡ get_or keys i 0) → ((i : ℕ) → i < to → get_or heads' i 0 ≡ get_or heads i 0)
        → Listed D k r from to keys' heads'
    listed_same keys' heads' p q =
        record {
          order = t.order;
          bound = t.bound;
          falls = λ i j a b c. omega (arith, p i (omega arith), p j c, t.falls i j a b c);
          value = λ i a b. omega (arith, p i b, t.value i a b);
          head = λ i a b. q i b ∙ t.head i a b ∙ ap (λ (y : ℕ). first_from 512 (has D k (value_of y)) r) (sym (p i b));
          there = λ s a e. let w = t.there s a e in (w.0, w.1, w.2, p w.0 w.2 ∙ w.3);
        }

  -- nothing is in
  pub listed-none : (r from : ℕ) (keys heads : List ℕ) → from ≤ 4096 → ((s : ℕ) → r ≤ s → (v : Cell) → has D k v s ≡ false) → Listed D k r from from keys heads
  listed-none r from keys heads l none =
      record {
        order = omega arith;
        bound = l;
        falls = λ i j a b c. absurd (omega arith);
        value = λ i a b. absurd (omega arith);
        head = λ i a b. absurd (omega arith);
        there = λ s a e. clash e (none s a _);
      }

  -- ---- row r is passed

  module _ (r from m : ℕ) (keys heads : List ℕ) (t : Listed D k (r + 1) from m keys heads) where
    -- a row that has nothing in the column
    pub listed-pass : ((v : Cell) → has D k v r ≡ false) → Listed D k r from m keys heads
    listed-pass none =
        record {
          order = t.order;
          bound = t.bound;
          falls = t.falls;
          value = t.value;
          head = λ i a b. t.head i a b ∙ sym (first-skip 512 _ r (none _));
          there = λ s a e. there s a e (same_number s r);
        }
      where
        there : (s : ℕ) → r ≤ s → has D k (D.cell s k.place) s ≡ true → (s ≡ r) ⊎ (s ≡ r → ⊥)
            → (i : ℕ) × (from ≤ i) × (i < m) × (get_or keys i 0 ≡ key_of (D.cell s k.place))
        there s a e (inl q) = clash e (subst (λ (z : ℕ). has D k (D.cell z k.place) z ≡ false) (sym q) (none _))
        there s a e (inr q) = t.there s (omega (arith, q)) e

    -- a row that has the value whose key is x, with x there or not
    module _ (x : ℕ) (l : r < 512) (e : has D k (value_of x) r ≡ true) where
      abbrev first_is : ℕ → ℕ → Type 0
      first_is h y = h ≡ first_from 512 (has D k (value_of y)) r

      here : (h y : ℕ) → h ≡ r → y ≡ x → first_is h y
      here h y p q =
          p ∙ sym (first-here 512 (has D k (value_of x)) r l e) ∙ ap (λ (z : ℕ). first_from 512 (has D k (value_of z)) r) (sym q)

      other : (i h y : ℕ) → from ≤ i → i < m → h ≡ get_or heads i 0 → y ≡ get_or keys i 0 → (y ≡ x → ⊥) → first_is h y
      other i h y a b p q ne =
          p ∙ t.head i a b ∙ ap (λ (z : ℕ). first_from 512 (has D k (value_of z)) (r + 1)) (sym q) ∙ sym (first-skip 512 (has D k (value_of y)) r (has_other x y r e ne))

      key : (s : ℕ) → s ≡ r → key_of (D.cell s k.place) ≡ x
      key s q = ap (λ (z : ℕ). key_of (D.cell z k.place)) q ∙ has_key x r e

      -- the value's first row before
      module _ (keys' heads' : List ℕ) (to next : ℕ) where
        known_next : Known x r from m keys heads keys' heads' to next → next ≡ first_from 512 (has D k (value_of x)) (r + 1)
        known_next w = w.next-is ∙ listed-hit (r + 1) from m keys heads t x w.at w.start w.end w.here

        new_none : New x r from m keys heads keys' heads' to next → (i : ℕ) → from ≤ i → i < m → get_or keys i 0 ≡ x → ⊥
        new_none w i a b q =
            let p = searched-only from m x keys w.at t.falls w.seat i a b q in
            w.other (omega (arith, p)) (ap (λ (z : ℕ). get_or keys z 0) (sym p) ∙ q)

        new-next : New x r from m keys heads keys' heads' to next → next ≡ first_from 512 (has D k (value_of x)) (r + 1)
        new-next w = w.next-is ∙ sym (listed-miss (r + 1) from m keys heads t x (new_none w))

        pub entered-next : Entered x r from m keys heads keys' heads' to next → next ≡ first_from 512 (has D k (value_of x)) (r + 1)
        entered-next w = ⊎_elim known_next new-next w

        -- row r is in
        known-listed : length heads ≡ 4096 → Known x r from m keys heads keys' heads' to next → Listed D k r from m keys heads'
        known-listed long w =
            record {
              order = t.order;
              bound = t.bound;
              falls = t.falls;
              value = t.value;
              head = λ i p q. head i p q (same_number i w.at);
              there = λ s a h. there s a h (same_number s r);
            }
          where
            head : (i : ℕ) → from ≤ i → i < m → (i ≡ w.at) ⊎ (i ≡ w.at → ⊥) → first_is (get_or heads' i 0) (get_or keys i 0)
            head i p q (inl u) =
                here _ _ (ap (λ (ys : List ℕ). get_or ys i 0) w.heads-are ∙ ap (λ (z : ℕ). get_or (set heads w.at r) z 0) u ∙
                get_or-set_same heads w.at r 0 (omega (arith, w.end))) (ap (λ (z : ℕ). get_or keys z 0) u ∙ w.here)
            head i p q (inr u) =
                other i _ _ p q (ap (λ (ys : List ℕ). get_or ys i 0) w.heads-are ∙ get_or-set_other heads w.at i r 0 u) refl (λ h. u (only i p q h))
              where
                only : (j : ℕ) → from ≤ j → j < m → get_or keys j 0 ≡ x → j ≡ w.at
                only j c d h = one_place from m keys t.falls j w.at c d w.start w.end (h ∙ sym w.here)

            there : (s : ℕ) → r ≤ s → has D k (D.cell s k.place) s ≡ true → (s ≡ r) ⊎ (s ≡ r → ⊥)
                → (i : ℕ) × (from ≤ i) × (i < m) × (get_or keys i 0 ≡ key_of (D.cell s k.place))
            there s a h (inl q) = (w.at, w.start, w.end, w.here ∙ sym (key s q))
            there s a h (inr q) = t.there s (omega (arith, q)) h

        module _ (b : m < 4096) (w : New x r from m keys heads keys' heads' to next) where
          abbrev a : ℕ
          a = w.at

          -- what stands at place i before a, at a, and after a
          before-key : (i : ℕ) → i < a → get_or keys' i 0 ≡ get_or keys i 0
          before-key = w.keys-are.moves.below

          before_head : (i : ℕ) → i < a → get_or heads' i 0 ≡ get_or heads i 0
          before_head = w.heads-are.moves.below

          after-key : (i : ℕ) → a < i → i < m + 1 → get_or keys' i 0 ≡ get_or keys (i - 1) 0
          after-key i p q =
              let e : i - 1 + 1 ≡ i = omega arith in
              ap (λ (z : ℕ). get_or keys' z 0) (sym e) ∙ w.keys-are.moves.moved (i - 1) (omega arith) (omega arith)

          after-head : (i : ℕ) → a < i → i < m + 1 → get_or heads' i 0 ≡ get_or heads (i - 1) 0
          after-head i p q =
              let e : i - 1 + 1 ≡ i = omega arith in
              ap (λ (z : ℕ). get_or heads' z 0) (sym e) ∙ w.heads-are.moves.moved (i - 1) (omega arith) (omega arith)

          here-key : (i : ℕ) → i ≡ a → get_or keys' i 0 ≡ x
          here-key i q = ap (λ (z : ℕ). get_or keys' z 0) q ∙ w.keys-are.here

          here-head : (i : ℕ) → i ≡ a → get_or heads' i 0 ≡ r
          here-head i q = ap (λ (z : ℕ). get_or heads' z 0) q ∙ w.heads-are.here

          new-falls : Falls from (m + 1) keys'
          new-falls i j p q v = go (order i a) (order j a)
            where
              go : (i < a) ⊎ ((i ≡ a) ⊎ (a < i)) → (j < a) ⊎ ((j ≡ a) ⊎ (a < j)) → get_or keys' j 0 < get_or keys' i 0
              go (inl c) (inl d) = omega (arith, before-key i c, before-key j d, t.falls i j p q (omega (arith, w.seat.end)))
              go (inl c) (inr (inl d)) = omega (arith, before-key i c, here-key j d, w.seat.above i p c)
              go (inl c) (inr (inr d)) = omega (arith, before-key i c, after-key j d v, t.falls i (j - 1) p (omega arith) (omega arith))
              go (inr (inl c)) (inl d) = absurd (omega arith)
              go (inr (inl c)) (inr (inl d)) = absurd (omega arith)
              go (inr (inl c)) (inr (inr d)) =
                  omega (
                    arith,
                    here-key i c,
                    after-key j d v,
                    w.seat.below (j - 1) (omega arith) (omega arith),
                    new_none w (j - 1) (omega (arith, w.seat.start)) (omega arith),
                  )
              go (inr (inr c)) (inl d) = absurd (omega arith)
              go (inr (inr c)) (inr (inl d)) = absurd (omega arith)
              go (inr (inr c)) (inr (inr d)) =
                  omega (arith, after-key i c (omega arith), after-key j d v, t.falls (i - 1) (j - 1) (omega (arith, w.seat.start)) (omega arith) (omega arith))

          new-value : (i : ℕ) → from ≤ i → i < m + 1 → 0 < get_or keys' i 0
          new-value i p v = go (order i a)
            where
              go : (i < a) ⊎ ((i ≡ a) ⊎ (a < i)) → 0 < get_or keys' i 0
              go (inl c) = omega (arith, before-key i c, t.value i p (omega (arith, w.seat.end)))
              go (inr (inl c)) = omega (arith, here-key i c, has_above x r e)
              go (inr (inr c)) = omega (arith, after-key i c v, t.value (i - 1) (omega (arith, w.seat.start)) (omega arith))

          new-head : (i : ℕ) → from ≤ i → i < m + 1 → first_is (get_or heads' i 0) (get_or keys' i 0)
          new-head i p v = go (order i a)
            where
              -- an old key
              old : (j : ℕ) → from ≤ j → j < m → get_or heads' i 0 ≡ get_or heads j 0 → get_or keys' i 0 ≡ get_or keys j 0 → first_is (get_or heads' i 0) (get_or keys' i 0)
              old j c d f g = other j _ _ c d f g (λ h. new_none w j c d (sym g ∙ h))

              go : (i < a) ⊎ ((i ≡ a) ⊎ (a < i)) → first_is (get_or heads' i 0) (get_or keys' i 0)
              go (inl c) = old i p (omega (arith, w.seat.end)) (before_head i c) (before-key i c)
              go (inr (inl c)) = here _ _ (here-head i c) (here-key i c)
              go (inr (inr c)) = old (i - 1) (omega (arith, w.seat.start)) (omega arith) (after-head i c v) (after-key i c v)

          new-there : (s : ℕ) → r ≤ s → has D k (D.cell s k.place) s ≡ true → (s ≡ r) ⊎ (s ≡ r → ⊥)
              → (i : ℕ) × (from ≤ i) × (i < m + 1) × (get_or keys' i 0 ≡ key_of (D.cell s k.place))
          new-there s u h (inl q) = (a, w.seat.start, omega (arith, w.seat.end), w.keys-are.here ∙ sym (key s q))
          new-there s u h (inr q) = go (t.there s (omega (arith, q)) h)
            where
              go : (i : ℕ) × (from ≤ i) × (i < m) × (get_or keys i 0 ≡ key_of (D.cell s k.place))
                  → (i : ℕ) × (from ≤ i) × (i < m + 1) × (get_or keys' i 0 ≡ key_of (D.cell s k.place))
              go (i, p, v, z) = at (dec_lt i a)
                where
                  at : Dec (i < a) → (j : ℕ) × (from ≤ j) × (j < m + 1) × (get_or keys' j 0 ≡ key_of (D.cell s k.place))
                  at (yes c) = (i, p, omega arith, before-key i c ∙ z)
                  at (no c) = (i + 1, omega arith, omega arith, w.keys-are.moves.moved i (omega arith) v ∙ z)

          new-listed : Listed D k r from (m + 1) keys' heads'
          new-listed =
              record {
                order = omega (arith, t.order);
                bound = omega arith;
                falls = new-falls;
                value = new-value;
                head = new-head;
                there = λ s u h. new-there s u h (same_number s r);
              }

        pub entered-listed : m < 4096 → length heads ≡ 4096 → Entered x r from m keys heads keys' heads' to next → Listed D k r from to keys' heads'
        entered-listed b long (inl w) =
            subst (λ (z : ℕ). Listed D k r from z keys' heads') (sym w.to_is)
            (subst (λ (ys : List ℕ). Listed D k r from m ys heads') (sym w.keys-are) (known-listed long w))
        entered-listed b long (inr w) = subst (λ (z : ℕ). Listed D k r from z keys' heads') (sym w.to_is) (new-listed b w)
