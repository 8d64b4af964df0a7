-- Words that are tested for held values, and have those of a record first, have bytes where the record has u8 fields; so they mean that record. Assumes nothing.
use Prim.Native.Nat.{ℕ, ◌+◌, ◌*◌, ◌≤◌, ◌<◌}
use native.Mathlib.Omega.{arith}
use mathlib.Core.Path.{◌≡◌, refl, sym, ap, subst}
use mathlib.Core.Bool.{true, and-eq-true_iff}
use mathlib.Core.List.{List, [], ◌∷◌, ◌++◌, append-nil}
use borrow.Author.Tests.{ltb-true}
use lib.ListN.{length, get_or, drop}
use lib.Seq.{sets, sets-eq}
use Rattle.finite.specs.Finite.{all}
use Rattle.finite.proofs.Search.{all-at}
use Rattle.finite.proofs.Collecting.{length-pieces}
use Rattle.finite.proofs.Standing.{Stands, stands-first, stands-part, stands_at, stands_here, stands-piece}
use Rattle.state.specs.declared.held.Held.{Held}
use Rattle.state.specs.Held.{no_value, no_range, no_ranges, held_at, range_at, ranges_at}
use Rattle.state.specs.HeldWords.{value_words, range_words, values_words, list_words, ranges_words, desks_words, held_words, words_held, is_byte, narrow_two, narrow_value, narrow_ranges, narrow_held}
use Rattle.state.proofs.Arrays.{HeldSized}
use Rattle.state.proofs.HeldWords.{length-ranges, length-held, NarrowHeld, held-stored}

-- what is asked for is a byte
byte-is : (ws : List ℕ) (i x : ℕ) → is_byte ws i ≡ true → get_or ws i 0 ≡ x → x < 256
unfolding is_byte
byte-is ws i x e q = subst (λ (n : ℕ). n < 256) q (ltb-true _ 256 e)

module _ (h : Held) (z : HeldSized h) (l : List ℕ) (m : 358 ≤ length l) (n : narrow_held (sets l 0 (held_words h)) ≡ true) where
  abbrev ws : List ℕ
  ws = sets l 0 (held_words h)

  -- ---- where the parts of the record stand

  first : Stands ws 0 (held_words h)
  first =
      subst (λ (x : List ℕ). Stands x 0 (held_words h)) (sym (sets-eq (held_words h) l 0 (omega (arith, length-held h, m))))
      (stands-first (held_words h) (drop (0 + length (held_words h)) l))

  desk-stands : Stands ws 0 (h.desk ∷ h.count ∷ [])
  unfolding held_words
  desk-stands = stands-part ws _ [] (h.desk ∷ h.count ∷ []) (values_words h.values ++ desks_words h.ranges) 0 0 first refl refl

  values-stand : Stands ws 2 (values_words h.values)
  unfolding held_words
  values-stand = stands-part ws _ (h.desk ∷ h.count ∷ []) (values_words h.values) (desks_words h.ranges) 0 2 first refl refl

  values-long : length (values_words h.values) ≡ 256
  values-long = length-pieces 4 (λ i. value_words (get_or h.values i no_value)) (λ j. refl) 64

  desks-stand : Stands ws 258 (desks_words h.ranges)
  unfolding held_words
  desks-stand =
      let a : List ℕ = h.desk ∷ h.count ∷ [] in
      let v = values_words h.values in
      let d = desks_words h.ranges in
      let e = values-long in
      stands-part ws _ (a ++ v) d [] 0 258 first (ap (λ (x : List ℕ). a ++ (v ++ x)) (sym (append-nil d))) (omega (arith, e))

  value-stands : (i : ℕ) → i < 64 → Stands ws (2 + 4 * i) (value_words (held_at h i))
  value-stands i b = stands-piece ws 2 4 (λ j. value_words (get_or h.values j no_value)) (λ j. refl) 64 values-stand i b

  list-stands : (e : ℕ) → e < 4 → Stands ws (258 + 25 * e + 1) (list_words (ranges_at h e).list)
  list-stands e b =
      let r = ranges_at h e in
      stands-part ws _ (r.count ∷ []) (list_words r.list) [] (258 + 25 * e) (258 + 25 * e + 1)
      (stands-piece ws 258 25 (λ j. ranges_words (get_or h.ranges j no_ranges)) (λ j. length-ranges (get_or h.ranges j no_ranges)) 4 desks-stand e b)
      (ap (λ (x : List ℕ). r.count ∷ x) (sym (append-nil (list_words r.list)))) refl

  range-stands : (e i : ℕ) → e < 4 → i < 8 → Stands ws (258 + 25 * e + 1 + 3 * i) (range_words (range_at (ranges_at h e) i))
  range-stands e i b c = stands-piece ws (258 + 25 * e + 1) 3 (λ j. range_words (get_or (ranges_at h e).list j no_range)) (λ j. refl) 8 (list-stands e b) i c

  -- ---- what the test says of them

  value-bytes : (i : ℕ) → i < 64 → ((held_at h i).desk < 256) × ((held_at h i).pair.filling < 256) × ((held_at h i).pair.value.issue < 256)
  unfolding narrow_held narrow_value narrow_two
  value-bytes i b =
      let a = (and-eq-true_iff (is_byte ws 0) _).0 n in
      let v = all-at 64 (λ j. narrow_value ws (2 + 4 * j)) ((and-eq-true_iff (all 64 (λ j. narrow_value ws (2 + 4 * j))) _).0 a.1).0 i b in
      let w = (and-eq-true_iff (narrow_two ws (2 + 4 * i)) (is_byte ws (2 + 4 * i + 3))).0 v in
      let t = (and-eq-true_iff (is_byte ws (2 + 4 * i)) (is_byte ws (2 + 4 * i + 1))).0 w.0 in
      let s = value-stands i b in (
        byte-is ws (2 + 4 * i) _ t.0 (stands_here ws _ (2 + 4 * i) s (omega arith)),
        byte-is ws (2 + 4 * i + 1) _ t.1 (stands_at ws _ (2 + 4 * i) s 1 (omega arith)),
        byte-is ws (2 + 4 * i + 3) _ w.1 (stands_at ws _ (2 + 4 * i) s 3 (omega arith)),
      )

  range-bytes : (e i : ℕ) → e < 4 → i < 8 → (range_at (ranges_at h e) i).filling < 256
  unfolding narrow_held narrow_ranges
  range-bytes e i b c =
      let a = (and-eq-true_iff (is_byte ws 0) _).0 n in
      let r = all-at 4 (λ j. narrow_ranges ws (258 + 25 * j)) ((and-eq-true_iff (all 64 (λ j. narrow_value ws (2 + 4 * j))) _).0 a.1).1 e b in
      byte-is ws (258 + 25 * e + 1 + 3 * i) _ (all-at 8 (λ j. is_byte ws (258 + 25 * e + 1 + 3 * j)) r i c)
      (stands_here ws _ (258 + 25 * e + 1 + 3 * i) (range-stands e i b c) (omega arith))

  narrow-record : NarrowHeld h
  unfolding narrow_held
  narrow-record =
      record {
        desk = byte-is ws 0 _ ((and-eq-true_iff (is_byte ws 0) _).0 n).0 (stands_here ws _ 0 desk-stands (omega arith));
        values = z.values;
        value = value-bytes;
        desks = z.ranges;
        ranges = λ e b. record { places = z.list e b; filling = λ i c. range-bytes e i b c };
      }

  -- they mean the record
  pub stored-means : words_held (sets l 0 (held_words h)) ≡ h
  stored-means = held-stored h narrow-record l m
