-- What a store of words does to what they hold: the named desk, the count, a value's place or a desk's ranges, and nothing else. Assumes nothing.
use Prim.Native.Nat.{ℕ, ◌+◌, ◌*◌, ◌%◌, ◌≤◌, ◌<◌}
use native.Mathlib.Omega.{arith}
use mathlib.Core.Path.{◌≡◌, sym, ap, ◌∙◌}
use mathlib.Core.Logic.{◌⊎◌, ⊎_elim}
use mathlib.Core.Bool.{true, ◌&&◌, and-eq-true_iff}
use mathlib.Core.List.{List, [], ◌∷◌, append_assoc}
use lib.Dec.{ltb}
use lib.ListN.{length, get_or, set, take, drop, length-set, length-take}
use lib.Seq.{sets, sets-eq, length-sets}
use borrow.Author.Tests.{lt-ltb}
use Rattle.finite.specs.Finite.{all}
use Rattle.finite.proofs.Bools.{both, order}
use Rattle.finite.proofs.Search.{all-at, all_same}
use Rattle.finite.proofs.Standing.{Stands}
use Rattle.finite.proofs.Stores.{sets_below, sets-above, sets-at}
use Rattle.finite.proofs.Tables.{tab-same}
use Rattle.state.specs.declared.held.OwnedValue.{OwnedValue}
use Rattle.state.specs.declared.held.DeskRanges.{DeskRanges}
use Rattle.state.specs.declared.held.Held.{Held}
use Rattle.state.specs.Held.{no_value, no_ranges}
use Rattle.state.specs.HeldWords.{value_words, ranges_words, word_at, byte_of, value_from, range_from, ranges_from, values_from, desks_from, words_held}
use Rattle.state.specs.HeldWords.{is_byte, narrow_two, narrow_value, narrow_ranges, narrow_held, Whole, Holds, with_named, with_count, with_value_at, with_ranges_at}
use Rattle.state.proofs.WordPlaces.{tab-set, all_set}
use Rattle.state.proofs.HeldWords.{NarrowValue, NarrowRanges, length-ranges, value-back, ranges-back, value-narrow, ranges-narrow, whole_long, whole-narrow, holds_of}

-- the w words from b on are the same
abbrev pub Same : List ℕ → List ℕ → ℕ → ℕ → Type 0
Same l m b w = (k : ℕ) → b ≤ k → k < b + w → word_at l k ≡ word_at m k

module _ (l m : List ℕ) where
  pub byte-same : (b : ℕ) → word_at l b ≡ word_at m b → is_byte l b ≡ is_byte m b
  unfolding is_byte
  byte-same b e = ap (λ (x : ℕ). ltb x 256) e

  value_same : (b : ℕ) → Same l m b 4 → value_from l b ≡ value_from m b
  value_same b s =
      let p : word_at l b ≡ word_at m b = s b (omega arith) (omega arith) in
      let q : word_at l (b + 1) ≡ word_at m (b + 1) = s (b + 1) (omega arith) (omega arith) in
      let r : word_at l (b + 2) ≡ word_at m (b + 2) = s (b + 2) (omega arith) (omega arith) in
      let t : word_at l (b + 3) ≡ word_at m (b + 3) = s (b + 3) (omega arith) (omega arith) in
      λ x. record { desk = p x % 256; pair = record { filling = q x % 256; value = record { number = r x; issue = t x % 256 } } }

  pub value-narrow-same : (b : ℕ) → Same l m b 4 → narrow_value l b ≡ narrow_value m b
  unfolding narrow_value narrow_two
  value-narrow-same b s =
      let p = byte-same b (s b (omega arith) (omega arith)) in
      let q = byte-same (b + 1) (s (b + 1) (omega arith) (omega arith)) in
      let t = byte-same (b + 3) (s (b + 3) (omega arith) (omega arith)) in
      λ x. (p x && q x) && t x

  ranges-same : (b : ℕ) → Same l m b 25 → ranges_from l b ≡ ranges_from m b
  ranges-same b s =
      let p : word_at l b ≡ word_at m b = s b (omega arith) (omega arith) in
      let rest = tab-same 8 (λ j. range_from l (b + 1 + 3 * j)) (λ j. range_from m (b + 1 + 3 * j)) (λ j h. at j h) in
      λ x. record { count = p x; list = rest x }
    where
      at : (j : ℕ) → j < 8 → range_from l (b + 1 + 3 * j) ≡ range_from m (b + 1 + 3 * j)
      at j h =
          let a = b + 1 + 3 * j in
          let p : word_at l a ≡ word_at m a = s a (omega arith) (omega arith) in
          let q : word_at l (a + 1) ≡ word_at m (a + 1) = s (a + 1) (omega arith) (omega arith) in
          let r : word_at l (a + 2) ≡ word_at m (a + 2) = s (a + 2) (omega arith) (omega arith) in
          λ x. record { filling = p x % 256; low = q x; high = r x }

  pub ranges-narrow-same : (b : ℕ) → Same l m b 25 → narrow_ranges l b ≡ narrow_ranges m b
  unfolding narrow_ranges
  ranges-narrow-same b s =
      all_same 8 (λ j. is_byte l (b + 1 + 3 * j)) (λ j. is_byte m (b + 1 + 3 * j)) (λ j h. byte-same (b + 1 + 3 * j) (s (b + 1 + 3 * j) (omega arith) (omega arith)))

  pub values_same : Same l m 2 256 → values_from l ≡ values_from m
  values_same s = tab-same 64 (λ j. value_from l (2 + 4 * j)) (λ j. value_from m (2 + 4 * j)) (λ j h. value_same (2 + 4 * j) (λ k a b. s k (omega arith) (omega arith)))

  pub desks-same : Same l m 258 100 → desks_from l ≡ desks_from m
  desks-same s = tab-same 4 (λ j. ranges_from l (258 + 25 * j)) (λ j. ranges_from m (258 + 25 * j)) (λ j h. ranges-same (258 + 25 * j) (λ k a b. s k (omega arith) (omega arith)))

-- the three parts of narrowness
module _ (ws : List ℕ) (n : narrow_held ws ≡ true) where
  desk-is-byte : is_byte ws 0 ≡ true
  unfolding narrow_held
  desk-is-byte = ((and-eq-true_iff (is_byte ws 0) _).0 n).0

  behind-is-narrow : all 64 (λ i. narrow_value ws (2 + 4 * i)) && all 4 (λ e. narrow_ranges ws (258 + 25 * e)) ≡ true
  unfolding narrow_held
  behind-is-narrow = ((and-eq-true_iff (is_byte ws 0) _).0 n).1

  all-values : all 64 (λ i. narrow_value ws (2 + 4 * i)) ≡ true
  all-values = ((and-eq-true_iff (all 64 (λ i. narrow_value ws (2 + 4 * i))) _).0 behind-is-narrow).0

  all-ranges : all 4 (λ e. narrow_ranges ws (258 + 25 * e)) ≡ true
  all-ranges = ((and-eq-true_iff (all 64 (λ i. narrow_value ws (2 + 4 * i))) _).0 behind-is-narrow).1

narrow-of : (ws : List ℕ) → is_byte ws 0 ≡ true → all 64 (λ i. narrow_value ws (2 + 4 * i)) ≡ true → all 4 (λ e. narrow_ranges ws (258 + 25 * e)) ≡ true → narrow_held ws ≡ true
unfolding narrow_held
narrow-of ws a b c = both a (both b c)

-- words that were stored stand where they were
stored-stands : (l vs : List ℕ) (a : ℕ) → a + length vs ≤ length l → Stands (sets l a vs) a vs
stored-stands l vs a h = record { front = take a l; behind = drop (a + length vs) l; is = sets-eq vs l a h ∙ append_assoc (take a l) vs (drop (a + length vs) l); place = omega (arith, length-take a l) }

held_of : (ws : List ℕ) (g : Held) → byte_of ws 0 ≡ g.desk → word_at ws 1 ≡ g.count → values_from ws ≡ g.values → desks_from ws ≡ g.ranges → words_held ws ≡ g
unfolding words_held
held_of ws g p q r s = λ x. record { desk = p x; count = q x; values = r x; ranges = s x }

module _ (ws : List ℕ) (whole : Whole ws) where
  l : length ws ≡ 358
  l = whole_long ws whole

  n : narrow_held ws ≡ true
  n = whole-narrow ws whole

  pub named-stored : (d : ℕ) → d < 256 → Holds (set ws 0 d) (with_named (words_held ws) d)
  unfolding words_held is_byte
  named-stored d small =
      let far : (b w : ℕ) → 1 ≤ b → Same (set ws 0 d) ws b w = λ b w h k i j. sets-above 0 ws 0 (d ∷ []) k (omega arith) in
      let z : word_at (set ws 0 d) 0 ≡ d = sets-at 0 ws 0 (d ∷ []) 0 (omega (arith, l)) (omega arith) in
      holds_of (set ws 0 d) (with_named (words_held ws) d) (length-set ws 0 d ∙ l)
      (held_of (set ws 0 d) (with_named (words_held ws) d) (omega arith) (far 1 1 (omega arith) 1 (omega arith) (omega arith))
      (values_same (set ws 0 d) ws (far 2 256 (omega arith))) (desks-same (set ws 0 d) ws (far 258 100 (omega arith))))
      (narrow-of (set ws 0 d) (lt-ltb (word_at (set ws 0 d) 0) 256 (omega arith))
      (all_same 64 _ _ (λ i h. value-narrow-same (set ws 0 d) ws (2 + 4 * i) (far _ 4 (omega arith))) ∙ all-values ws n)
      (all_same 4 _ _ (λ i h. ranges-narrow-same (set ws 0 d) ws (258 + 25 * i) (far _ 25 (omega arith))) ∙ all-ranges ws n))

  pub count-stored : (c : ℕ) → Holds (set ws 1 c) (with_count (words_held ws) c)
  unfolding words_held
  count-stored c =
      let far : (b w : ℕ) → 2 ≤ b → Same (set ws 1 c) ws b w = λ b w h k i j. sets-above 0 ws 1 (c ∷ []) k (omega arith) in
      let z : word_at (set ws 1 c) 0 ≡ word_at ws 0 = sets_below 0 ws 1 (c ∷ []) 0 (omega arith) in
      holds_of (set ws 1 c) (with_count (words_held ws) c) (length-set ws 1 c ∙ l)
      (held_of (set ws 1 c) (with_count (words_held ws) c) (ap (λ (x : ℕ). x % 256) z) (sets-at 0 ws 1 (c ∷ []) 0 (omega (arith, l)) (omega arith))
      (values_same (set ws 1 c) ws (far 2 256 (omega arith))) (desks-same (set ws 1 c) ws (far 258 100 (omega arith))))
      (narrow-of (set ws 1 c) (byte-same (set ws 1 c) ws 0 z ∙ desk-is-byte ws n)
      (all_same 64 _ _ (λ i h. value-narrow-same (set ws 1 c) ws (2 + 4 * i) (far _ 4 (omega arith))) ∙ all-values ws n)
      (all_same 4 _ _ (λ i h. ranges-narrow-same (set ws 1 c) ws (258 + 25 * i) (far _ 25 (omega arith))) ∙ all-ranges ws n))

  module _ (i : ℕ) (h : i < 64) (v : OwnedValue) (small : NarrowValue v) (ws' : List ℕ) (e : ws' ≡ sets ws (2 + 4 * i) (value_words v)) where
    value_there : Stands ws' (2 + 4 * i) (value_words v)
    value_there = rw e (stored-stands ws (value_words v) (2 + 4 * i) (omega (arith, l)))

    value-below : (k : ℕ) → k < 2 + 4 * i → word_at ws' k ≡ word_at ws k
    value-below k b = ap (λ (m : List ℕ). get_or m k 0) e ∙ sets_below 0 ws (2 + 4 * i) (value_words v) k b

    value-above : (k : ℕ) → 2 + 4 * i + 4 ≤ k → word_at ws' k ≡ word_at ws k
    value-above k b = ap (λ (m : List ℕ). get_or m k 0) e ∙ sets-above 0 ws (2 + 4 * i) (value_words v) k b

    value-other : (j : ℕ) → (j ≡ i → ⊥) → Same ws' ws (2 + 4 * j) 4
    value-other j ne k a b =
        ⊎_elim (λ (o : j < i). value-below k (omega arith))
        (λ (o : (j ≡ i) ⊎ (i < j)). ⊎_elim (λ (q : j ≡ i). absurd (ne q)) (λ (q : i < j). value-above k (omega arith)) o) (order j i)

    pub value-stored : Holds ws' (with_value_at (words_held ws) i v)
    unfolding words_held
    value-stored =
        holds_of ws' (with_value_at (words_held ws) i v) (ap length e ∙ length-sets ws (2 + 4 * i) (value_words v) ∙ l)
        (held_of ws' (with_value_at (words_held ws) i v) (ap (λ (x : ℕ). x % 256) (value-below 0 (omega arith))) (value-below 1 (omega arith))
        (tab-set no_value 64 i (λ j. value_from ws (2 + 4 * j)) (λ j. value_from ws' (2 + 4 * j)) v h (sym (value-back ws' (2 + 4 * i) v value_there small))
        (λ j b ne. value_same ws' ws (2 + 4 * j) (value-other j ne)))
        (desks-same ws' ws (λ k a b. value-above k (omega arith))))
        (narrow-of ws' (byte-same ws' ws 0 (value-below 0 (omega arith)) ∙ desk-is-byte ws n)
        (all_set 64 i (λ j. narrow_value ws (2 + 4 * j)) (λ j. narrow_value ws' (2 + 4 * j)) (value-narrow ws' (2 + 4 * i) v value_there small) (all-at 64 _ (all-values ws n))
        (λ j b ne. value-narrow-same ws' ws (2 + 4 * j) (value-other j ne)))
        (all_same 4 _ _ (λ j b. ranges-narrow-same ws' ws (258 + 25 * j) (λ k a c. value-above k (omega arith))) ∙ all-ranges ws n))

  module _ (i : ℕ) (h : i < 4) (s : DeskRanges) (small : NarrowRanges s) (ws' : List ℕ) (e : ws' ≡ sets ws (258 + 25 * i) (ranges_words s)) where
    ranges-there : Stands ws' (258 + 25 * i) (ranges_words s)
    ranges-there = rw e (stored-stands ws (ranges_words s) (258 + 25 * i) (omega (arith, l, length-ranges s)))

    ranges-below : (k : ℕ) → k < 258 + 25 * i → word_at ws' k ≡ word_at ws k
    ranges-below k b = ap (λ (m : List ℕ). get_or m k 0) e ∙ sets_below 0 ws (258 + 25 * i) (ranges_words s) k b

    ranges-above : (k : ℕ) → 258 + 25 * i + 25 ≤ k → word_at ws' k ≡ word_at ws k
    ranges-above k b = ap (λ (m : List ℕ). get_or m k 0) e ∙ sets-above 0 ws (258 + 25 * i) (ranges_words s) k (omega (arith, length-ranges s))

    ranges-other : (j : ℕ) → (j ≡ i → ⊥) → Same ws' ws (258 + 25 * j) 25
    ranges-other j ne k a b =
        ⊎_elim (λ (o : j < i). ranges-below k (omega arith))
        (λ (o : (j ≡ i) ⊎ (i < j)). ⊎_elim (λ (q : j ≡ i). absurd (ne q)) (λ (q : i < j). ranges-above k (omega arith)) o) (order j i)

    pub ranges-stored : Holds ws' (with_ranges_at (words_held ws) i s)
    unfolding words_held
    ranges-stored =
        holds_of ws' (with_ranges_at (words_held ws) i s) (ap length e ∙ length-sets ws (258 + 25 * i) (ranges_words s) ∙ l)
        (held_of ws' (with_ranges_at (words_held ws) i s) (ap (λ (x : ℕ). x % 256) (ranges-below 0 (omega arith))) (ranges-below 1 (omega arith))
        (values_same ws' ws (λ k a b. ranges-below k (omega arith)))
        (tab-set no_ranges 4 i (λ j. ranges_from ws (258 + 25 * j)) (λ j. ranges_from ws' (258 + 25 * j)) s h (sym (ranges-back ws' (258 + 25 * i) s ranges-there small))
        (λ j b ne. ranges-same ws' ws (258 + 25 * j) (ranges-other j ne))))
        (narrow-of ws' (byte-same ws' ws 0 (ranges-below 0 (omega arith)) ∙ desk-is-byte ws n)
        (all_same 64 _ _ (λ j b. value-narrow-same ws' ws (2 + 4 * j) (λ k a c. ranges-below k (omega arith))) ∙ all-values ws n)
        (all_set 4 i (λ j. narrow_ranges ws (258 + 25 * j)) (λ j. narrow_ranges ws' (258 + 25 * j)) (ranges-narrow ws' (258 + 25 * i) s ranges-there small) (all-at 4 _ (all-ranges ws n))
        (λ j b ne. ranges-narrow-same ws' ws (258 + 25 * j) (ranges-other j ne))))
