-- Words of what is held: how long they are, how they are stored part by part, that they read back as what they stand for, that the words of a record are narrow, and that
-- narrow words are the words of what they stand for. Assumes nothing.
use Prim.Native.Nat.{ℕ, ◌+◌, ◌*◌, ◌≤◌, ◌<◌}
use native.Mathlib.Omega.{arith}
use mathlib.Core.Path.{◌≡◌, refl, sym, ap, subst, ◌∙◌}
use mathlib.Core.Bool.{true, and-eq-true_iff}
use mathlib.Core.List.{List, [], ◌∷◌, ◌++◌, append-nil}
use lib.ListN.{length, get_or, set, drop, length-append}
use lib.Seq.{sets, sets-eq, length-sets, ext_get_or}
use Rattle.finite.specs.Finite.{all, tab}
use Rattle.finite.proofs.Bools.{both}
use Rattle.finite.proofs.Search.{all-at}
use Rattle.finite.proofs.Standing.{Stands, stands-first, stands-part}
use Rattle.finite.proofs.Stores.{sets_then, sets-at}
use Rattle.finite.proofs.Tables.{length-tab, tab-at, tab-of}
use Rattle.state.specs.declared.held.OwnedValue.{OwnedValue}
use Rattle.state.specs.declared.held.Range.{Range}
use Rattle.state.specs.declared.held.DeskRanges.{DeskRanges}
use Rattle.state.specs.declared.held.Held.{Held}
use Rattle.state.specs.Held.{no_value, no_range, no_ranges, held_at, range_at, ranges_at}
use Rattle.state.specs.HeldWords.{value_words, range_words, values_words, list_words, ranges_words, desks_words, held_words, word_at, byte_of, value_from, range_from}
use Rattle.state.specs.HeldWords.{ranges_from, values_from, desks_from, words_held, is_byte, narrow_two, narrow_value, narrow_ranges, narrow_held, Whole, Holds}
use Rattle.state.proofs.Arrays.{HeldSized}
use Rattle.state.proofs.WordPlaces.{length-places, stored-behind, word_back, byte-back, byte-stands, two-stand, places-back, places-narrow}
use Rattle.state.proofs.WordPlaces.{one_kept, two-kept, three-kept, four-kept, byte-kept, two_bytes, places-kept}

-- ---- how long they are

length-values : (vs : List OwnedValue) → length (values_words vs) ≡ 256
length-values = length-places 64 4 no_value value_words (λ v. refl)

pub length-ranges : (s : DeskRanges) → length (ranges_words s) ≡ 25
length-ranges s = omega (arith, length-places 8 3 no_range range_words (λ r. refl) s.list)

length-desks : (ss : List DeskRanges) → length (desks_words ss) ≡ 100
length-desks = length-places 4 25 no_ranges ranges_words length-ranges

pub length-held : (h : Held) → length (held_words h) ≡ 358
unfolding held_words
length-held h = omega (arith, length-append (values_words h.values) (desks_words h.ranges), length-values h.values, length-desks h.ranges)

-- ---- how they are stored

-- a desk's count, and its places behind it
pub stored-ranges : (s : DeskRanges) (l x y : List ℕ) (i : ℕ) → x ≡ set l i s.count → y ≡ sets x (i + 1) (list_words s.list) → y ≡ sets l i (ranges_words s)
stored-ranges s l x y i p q =
    q ∙ ap (λ (m : List ℕ). sets m (i + 1) (list_words s.list)) p ∙ sets_then (s.count ∷ []) (list_words s.list) l i (i + 1) refl

pub stored-held : (h : Held) (l x y z : List ℕ) → x ≡ sets l 0 (h.desk ∷ h.count ∷ []) → y ≡ sets x 2 (values_words h.values) →
    z ≡ sets y 258 (desks_words h.ranges) → z ≡ sets l 0 (held_words h)
unfolding held_words
stored-held h l x y z p q r =
    let a = values_words h.values in let b = desks_words h.ranges in
    stored-behind l x z 0 h.desk h.count (a ++ b) p
    (r ∙ ap (λ (m : List ℕ). sets m 258 b) q ∙ sets_then a b x 2 258 (omega (arith, length-values h.values)))

-- ---- how they are read, part by part

pub held-is : (ws : List ℕ) (d n : ℕ) (vs : List OwnedValue) (ss : List DeskRanges) → d ≡ byte_of ws 0 → n ≡ word_at ws 1 → vs ≡ values_from ws → ss ≡ desks_from ws →
    record { desk = d; count = n; values = vs; ranges = ss } ≡ words_held ws
unfolding words_held
held-is ws d n vs ss o p q r = λ x. record { desk = o x; count = p x; values = q x; ranges = r x }

module _ (ws : List ℕ) where
  pub desk-in : byte_of ws 0 ≡ (words_held ws).desk
  unfolding words_held
  desk-in = refl

  pub count-in : word_at ws 1 ≡ (words_held ws).count
  unfolding words_held
  count-in = refl

  pub value-in : (i : ℕ) → i < 64 → value_from ws (2 + 4 * i) ≡ held_at (words_held ws) i
  unfolding words_held
  value-in i l = sym (tab-at no_value 64 (λ j. value_from ws (2 + 4 * j)) i l)

  pub ranges_in : (e : ℕ) → e < 4 → ranges_from ws (258 + 25 * e) ≡ ranges_at (words_held ws) e
  unfolding words_held
  ranges_in e l = sym (tab-at no_ranges 4 (λ j. ranges_from ws (258 + 25 * j)) e l)

  pub range-in : (e i : ℕ) → e < 4 → i < 8 → range_from ws (258 + 25 * e + 1 + 3 * i) ≡ range_at (ranges_at (words_held ws) e) i
  range-in e i l m =
      sym (tab-at no_range 8 (λ j. range_from ws (258 + 25 * e + 1 + 3 * j)) i m) ∙ ap (λ (s : DeskRanges). range_at s i) (ranges_in e l)

  -- read word by word
  pub value_read : (i : ℕ) → i < 64 → (a b n c : ℕ) → a ≡ byte_of ws (2 + 4 * i) → b ≡ byte_of ws (2 + 4 * i + 1) → n ≡ word_at ws (2 + 4 * i + 2) →
      c ≡ byte_of ws (2 + 4 * i + 3) → record { desk = a; pair = record { filling = b; value = record { number = n; issue = c } } } ≡ held_at (words_held ws) i
  value_read i l a b n c p q r t =
      (λ x. record { desk = p x; pair = record { filling = q x; value = record { number = r x; issue = t x } } }) ∙ value-in i l

  pub range-read : (e i : ℕ) → e < 4 → i < 8 → (f a b : ℕ) → f ≡ byte_of ws (258 + 25 * e + 1 + 3 * i) → a ≡ word_at ws (258 + 25 * e + 1 + 3 * i + 1) →
      b ≡ word_at ws (258 + 25 * e + 1 + 3 * i + 2) → record { filling = f; low = a; high = b } ≡ range_at (ranges_at (words_held ws) e) i
  range-read e i l m f a b p q r = (λ x. record { filling = p x; low = q x; high = r x }) ∙ range-in e i l m

  pub ranges-count : (e : ℕ) → e < 4 → word_at ws (258 + 25 * e) ≡ (ranges_at (words_held ws) e).count
  ranges-count e l = ap (λ (s : DeskRanges). s.count) (ranges_in e l)

  -- the arrays of what words mean have their places
  pub words-sized : HeldSized (words_held ws)
  unfolding words_held
  words-sized =
      record {
        values = length-tab 64 (λ j. value_from ws (2 + 4 * j));
        ranges = length-tab 4 (λ j. ranges_from ws (258 + 25 * j));
        list =
            λ e l. ap (λ (s : DeskRanges). length s.list) (tab-at no_ranges 4 (λ j. ranges_from ws (258 + 25 * j)) e l) ∙
            length-tab 8 (λ j. range_from ws (258 + 25 * e + 1 + 3 * j));
      }

-- a desk's ranges, read one by one
pub ranges-is : (ws : List ℕ) (e : ℕ) → e < 4 → (n : ℕ) (rs : List Range) → n ≡ (ranges_at (words_held ws) e).count → rs ≡ tab 8 (range_at (ranges_at (words_held ws) e)) →
    record { count = n; list = rs } ≡ ranges_at (words_held ws) e
ranges-is ws e l n rs p q =
    let r = q ∙ sym (tab-of no_range 8 (range_at (ranges_at (words_held ws) e)) (ranges_at (words_held ws) e).list ((words-sized ws).list e l) (λ i m. refl)) in
    λ x. record { count = p x; list = r x }

-- ---- reading them back

-- the fields that are u8
abbrev pub NarrowValue : OwnedValue → Type 0
NarrowValue v = (v.desk < 256) × (v.pair.filling < 256) × (v.pair.value.issue < 256)

-- a desk's ranges, which have their places
pub record NarrowRanges (s : DeskRanges) : Type 0 where
  pub places : length s.list ≡ 8
  pub filling : (i : ℕ) → i < 8 → (range_at s i).filling < 256

-- the named desk too
pub record NarrowHeld (h : Held) : Type 0 where
  pub desk : h.desk < 256
  pub values : length h.values ≡ 64
  pub value : (i : ℕ) → i < 64 → NarrowValue (held_at h i)
  pub desks : length h.ranges ≡ 4
  pub ranges : (e : ℕ) → e < 4 → NarrowRanges (ranges_at h e)

pub value-back : (s : List ℕ) (i : ℕ) (v : OwnedValue) → Stands s i (value_words v) → NarrowValue v → v ≡ value_from s i
value-back s i v h n =
    λ x. record {
      desk = byte-back s _ i h 0 i (omega arith) (omega arith) n.0 x;
      pair = record {
        filling = byte-back s _ i h 1 (i + 1) (omega arith) refl n.1 x;
        value = record { number = word_back s _ i h 2 (i + 2) (omega arith) refl x; issue = byte-back s _ i h 3 (i + 3) (omega arith) refl n.2 x };
      };
    }

range-back : (s : List ℕ) (i : ℕ) (r : Range) → Stands s i (range_words r) → r.filling < 256 → r ≡ range_from s i
range-back s i r h n =
    λ x. record {
      filling = byte-back s _ i h 0 i (omega arith) (omega arith) n x;
      low = word_back s _ i h 1 (i + 1) (omega arith) refl x;
      high = word_back s _ i h 2 (i + 2) (omega arith) refl x;
    }

-- a desk's ranges: the count, and its places behind it
behind-count : (ws : List ℕ) (i : ℕ) (s : DeskRanges) → Stands ws i (ranges_words s) → Stands ws (i + 1) (list_words s.list)
behind-count ws i s h =
    stands-part ws _ (s.count ∷ []) (list_words s.list) [] i (i + 1) h (ap (λ (l : List ℕ). s.count ∷ l) (sym (append-nil (list_words s.list)))) refl

pub ranges-back : (ws : List ℕ) (i : ℕ) (s : DeskRanges) → Stands ws i (ranges_words s) → NarrowRanges s → s ≡ ranges_from ws i
ranges-back ws i s h n =
    let p = places-back 8 (i + 1) 3 no_range range_words range_from (λ r. r.filling < 256) (λ r. refl) range-back ws s.list (behind-count ws i s h) n.places n.filling in
    λ x. record { count = word_back ws _ i h 0 i (omega arith) (omega arith) x; list = p x }

-- each part of the words stands in its place
module _ (h : Held) (s : List ℕ) (e : Stands s 0 (held_words h)) where
  desk-stands : Stands s 0 (h.desk ∷ h.count ∷ [])
  unfolding held_words
  desk-stands = stands-part s _ [] (h.desk ∷ h.count ∷ []) (values_words h.values ++ desks_words h.ranges) 0 0 e refl refl

  behind-desk : Stands s 2 (values_words h.values ++ desks_words h.ranges)
  unfolding held_words
  behind-desk =
      let first : List ℕ = h.desk ∷ h.count ∷ [] in let a = values_words h.values in let b = desks_words h.ranges in
      stands-part s _ first (a ++ b) [] 0 2 e (ap (λ (l : List ℕ). first ++ l) (sym (append-nil (a ++ b)))) refl

  values-stand : Stands s 2 (values_words h.values)
  values-stand = stands-part s _ [] (values_words h.values) (desks_words h.ranges) 2 2 behind-desk refl refl

  desks-stand : Stands s 258 (desks_words h.ranges)
  desks-stand =
      let a = values_words h.values in let b = desks_words h.ranges in
      stands-part s _ a b [] 2 258 behind-desk (ap (λ (l : List ℕ). a ++ l) (sym (append-nil b))) (omega (arith, length-values h.values))

module _ (h : Held) (n : NarrowHeld h) where
  stands-back : (s : List ℕ) → Stands s 0 (held_words h) → words_held s ≡ h
  stands-back s e =
      let first = desk-stands h s e in
      sym (held-is s _ _ _ _ (byte-back s _ 0 first 0 0 (omega arith) refl n.desk) (word_back s _ 0 first 1 1 (omega arith) refl)
      (places-back 64 2 4 no_value value_words value_from NarrowValue (λ v. refl) value-back s h.values (values-stand h s e) n.values n.value)
      (places-back 4 258 25 no_ranges ranges_words ranges_from NarrowRanges length-ranges ranges-back s h.ranges (desks-stand h s e) n.desks n.ranges))

  pub held_back : (rest : List ℕ) → words_held (held_words h ++ rest) ≡ h
  held_back rest = stands-back _ (stands-first (held_words h) rest)

  -- also where they were stored
  pub held-stored : (l : List ℕ) → 358 ≤ length l → words_held (sets l 0 (held_words h)) ≡ h
  held-stored l m = ap words_held (sets-eq (held_words h) l 0 (omega (arith, length-held h))) ∙ held_back (drop (0 + length (held_words h)) l)

-- ---- the words of a record are narrow

pub value-narrow : (s : List ℕ) (i : ℕ) (v : OwnedValue) → Stands s i (value_words v) → NarrowValue v → narrow_value s i ≡ true
unfolding narrow_value
value-narrow s i v h n =
    both
    (two-stand s i _ _
    (stands-part s _ [] (v.desk ∷ v.pair.filling ∷ []) (v.pair.value.number ∷ v.pair.value.issue ∷ []) i i h refl (omega arith)) n.0 n.1)
    (byte-stands s _ i h 3 (i + 3) (omega arith) refl n.2)

range-narrow : (s : List ℕ) (i : ℕ) (r : Range) → Stands s i (range_words r) → r.filling < 256 → is_byte s i ≡ true
range-narrow s i r h n = byte-stands s _ i h 0 i (omega arith) (omega arith) n

pub ranges-narrow : (s : List ℕ) (i : ℕ) (r : DeskRanges) → Stands s i (ranges_words r) → NarrowRanges r → narrow_ranges s i ≡ true
unfolding narrow_ranges
ranges-narrow s i r h n =
    places-narrow 8 (i + 1) 3 no_range range_words is_byte (λ q. q.filling < 256) (λ q. refl) range-narrow s r.list (behind-count s i r h) n.filling

stands-narrow : (h : Held) → NarrowHeld h → (s : List ℕ) → Stands s 0 (held_words h) → narrow_held s ≡ true
unfolding narrow_held
stands-narrow h n s e =
    both (byte-stands s _ 0 (desk-stands h s e) 0 0 (omega arith) refl n.desk)
    (both
    (places-narrow 64 2 4 no_value value_words narrow_value NarrowValue (λ v. refl) value-narrow s h.values (values-stand h s e) n.value)
    (places-narrow 4 258 25 no_ranges ranges_words narrow_ranges NarrowRanges length-ranges ranges-narrow s h.ranges (desks-stand h s e) n.ranges))

pub held-narrow : (h : Held) → NarrowHeld h → (l : List ℕ) → 358 ≤ length l → narrow_held (sets l 0 (held_words h)) ≡ true
held-narrow h n l m =
    ap narrow_held (sets-eq (held_words h) l 0 (omega (arith, length-held h))) ∙ stands-narrow h n _ (stands-first (held_words h) (drop (0 + length (held_words h)) l))

-- ---- narrow words are the words of what they stand for

module _ (l : List ℕ) where
  value-kept : (i : ℕ) → narrow_value l i ≡ true → sets l i (value_words (value_from l i)) ≡ l
  unfolding narrow_value
  value-kept i e =
      let h = (and-eq-true_iff (narrow_two l i) (is_byte l (i + 3))).0 e in
      let p = two_bytes l i h.0 in
      four-kept l i _ _ _ _ p.0 p.1 refl (byte-kept l (i + 3) h.1)

  range-kept : (i : ℕ) → is_byte l i ≡ true → sets l i (range_words (range_from l i)) ≡ l
  range-kept i e = three-kept l i _ _ _ (byte-kept l i e) refl refl

  ranges-kept : (i : ℕ) → narrow_ranges l i ≡ true → sets l i (ranges_words (ranges_from l i)) ≡ l
  unfolding narrow_ranges
  ranges-kept i e =
      sym (stored-ranges (ranges_from l i) l l l i (sym (one_kept l i (word_at l i) refl))
      (sym (places-kept l 8 (i + 1) 3 no_range range_words range_from (λ r. refl) (λ j h. range-kept (i + 1 + 3 * j) (all-at 8 _ e j h)))))

  -- storing them again changes nothing
  pub same-held-words : narrow_held l ≡ true → sets l 0 (held_words (words_held l)) ≡ l
  unfolding narrow_held words_held
  same-held-words e =
      let a = (and-eq-true_iff (is_byte l 0) _).0 e in
      let b = (and-eq-true_iff (all 64 (λ i. narrow_value l (2 + 4 * i))) _).0 a.1 in
      sym (stored-held (words_held l) l l l l (sym (two-kept l 0 _ _ (byte-kept l 0 a.0) refl))
      (sym (places-kept l 64 2 4 no_value value_words value_from (λ v. refl) (λ i h. value-kept (2 + 4 * i) (all-at 64 _ b.0 i h))))
      (sym (places-kept l 4 258 25 no_ranges ranges_words ranges_from length-ranges (λ i h. ranges-kept (258 + 25 * i) (all-at 4 _ b.1 i h)))))

-- a list stored over one of its length
pub stored-whole : (l vs : List ℕ) → length l ≡ length vs → sets l 0 vs ≡ vs
stored-whole l vs e =
    ext_get_or 0 (sets l 0 vs) vs (length-sets l 0 vs ∙ e)
    (λ i b. let z : i ≡ 0 + i = omega arith in ap (λ (k : ℕ). get_or (sets l 0 vs) k 0) z ∙ sets-at 0 l 0 vs i (omega arith) (omega (arith, length-sets l 0 vs)))

pub whole_words : (ws : List ℕ) → length ws ≡ 358 → narrow_held ws ≡ true → Whole ws
whole_words ws l e = sym (same-held-words ws e) ∙ stored-whole ws (held_words (words_held ws)) (l ∙ sym (length-held (words_held ws)))

-- what words mean has bytes where they belong
narrow-means : (ws : List ℕ) → NarrowHeld (words_held ws)
narrow-means ws =
    record {
      desk = omega (arith, desk-in ws);
      values = (words-sized ws).values;
      value = λ i l. subst NarrowValue (value-in ws i l) (omega arith, omega arith, omega arith);
      desks = (words-sized ws).ranges;
      ranges =
          λ e l. subst NarrowRanges (ranges_in ws e l)
          (record {
            places = length-tab 8 (λ j. range_from ws (258 + 25 * e + 1 + 3 * j));
            filling = λ i m. subst (λ (r : Range). r.filling < 256) (sym (tab-at no_range 8 (λ j. range_from ws (258 + 25 * e + 1 + 3 * j)) i m)) (omega arith);
          });
    }

module _ (ws : List ℕ) (w : Whole ws) where
  pub whole_long : length ws ≡ 358
  whole_long = ap length w ∙ length-held (words_held ws)

  pub whole-narrow : narrow_held ws ≡ true
  whole-narrow =
      stands-narrow (words_held ws) (narrow-means ws) ws
      (record { front = []; behind = []; is = w ∙ sym (append-nil (held_words (words_held ws))); place = refl })

-- ---- words that mean a record and are narrow hold it

pub holds_of : (ws : List ℕ) (h : Held) → length ws ≡ 358 → words_held ws ≡ h → narrow_held ws ≡ true → Holds ws h
holds_of ws h l e n = record { words = whole_words ws l n ∙ ap held_words e; means = e }

module _ (ws : List ℕ) (h : Held) (o : Holds ws h) where
  pub holds-whole : Whole ws
  holds-whole = o.words ∙ ap held_words (sym o.means)

  -- a record that is the same
  pub holds_same : (g : Held) → h ≡ g → Holds ws g
  holds_same g e = subst (Holds ws) e o

-- the words of a narrow record, stored whole
pub holds-stored : (h : Held) → NarrowHeld h → (l : List ℕ) → length l ≡ 358 → Holds (sets l 0 (held_words h)) h
holds-stored h n l e = holds_of _ h (length-sets l 0 (held_words h) ∙ e) (held-stored h n l (omega arith)) (held-narrow h n l (omega arith))
