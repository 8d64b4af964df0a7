-- What is held as a list of 358 u32 words, as it is lent to every function that reads or changes it: the named desk, the count of values, 64 places of four words
-- (desk, filling, number, issue), then for each of the 4 desks the count of its ranges and 8 places of three words (filling, low, high). What such words mean, the
-- words of a record, which words are words of one, and what a store leaves. Assumes nothing.
use Rattle.std.specs.Prelude.{ℕ, ◌+◌, ◌*◌, ◌%◌, ◌<◌, ◌≡◌, Bool, true, ◌&&◌, List, [], ◌∷◌, ◌++◌, ltb, leb, get_or, set, length}
use Rattle.finite.specs.Finite.{all, tab, collect}
use Rattle.state.specs.declared.held.OwnedValue.{OwnedValue}
use Rattle.state.specs.declared.held.Range.{Range}
use Rattle.state.specs.declared.held.DeskRanges.{DeskRanges}
use Rattle.state.specs.declared.held.Held.{Held}
use Rattle.state.specs.Held.{no_value, no_range, no_ranges, held_at, ranges_at}

-- how many words there are
abbrev pub held_length : ℕ
held_length = 358

-- ---- to words

abbrev pub value_words : OwnedValue → List ℕ
value_words v = v.desk ∷ v.pair.filling ∷ v.pair.value.number ∷ v.pair.value.issue ∷ []

abbrev pub range_words : Range → List ℕ
range_words r = r.filling ∷ r.low ∷ r.high ∷ []

-- all places of an array of n, unused ones too: their words one behind the other
abbrev pub places_words : {A : Type 0} → ℕ → A → (A → List ℕ) → List A → List ℕ
places_words n none words xs = collect n (λ _. true) (λ i. words (get_or xs i none))

abbrev pub values_words : List OwnedValue → List ℕ
values_words = places_words 64 no_value value_words

abbrev pub list_words : List Range → List ℕ
list_words = places_words 8 no_range range_words

-- a desk's ranges: their count, and its places
abbrev pub ranges_words : DeskRanges → List ℕ
ranges_words s = s.count ∷ list_words s.list

abbrev pub desks_words : List DeskRanges → List ℕ
desks_words = places_words 4 no_ranges ranges_words

unfoldable pub held_words : Held → List ℕ
held_words h = h.desk ∷ h.count ∷ (values_words h.values ++ desks_words h.ranges)

-- ---- from words

abbrev pub word_at : List ℕ → ℕ → ℕ
word_at ws i = get_or ws i 0

-- a word where a u8 is kept
abbrev pub byte_of : List ℕ → ℕ → ℕ
byte_of ws i = word_at ws i % 256

abbrev pub value_from : List ℕ → ℕ → OwnedValue
value_from ws i =
    record {
      desk = byte_of ws i;
      pair = record { filling = byte_of ws (i + 1); value = record { number = word_at ws (i + 2); issue = byte_of ws (i + 3) } };
    }

abbrev pub range_from : List ℕ → ℕ → Range
range_from ws i = record { filling = byte_of ws i; low = word_at ws (i + 1); high = word_at ws (i + 2) }

-- the n places of an array, each of w words, the first at word a
abbrev pub places_from : {A : Type 0} → ℕ → ℕ → ℕ → (List ℕ → ℕ → A) → List ℕ → List A
places_from n a w from ws = tab n (λ i. from ws (a + w * i))

abbrev pub values_from : List ℕ → List OwnedValue
values_from = places_from 64 2 4 value_from

-- from word i on
abbrev pub list_from : List ℕ → ℕ → List Range
list_from ws i = places_from 8 i 3 range_from ws

abbrev pub ranges_from : List ℕ → ℕ → DeskRanges
ranges_from ws i = record { count = word_at ws i; list = list_from ws (i + 1) }

abbrev pub desks_from : List ℕ → List DeskRanges
desks_from = places_from 4 258 25 ranges_from

unfoldable pub words_held : List ℕ → Held
words_held ws = record { desk = byte_of ws 0; count = word_at ws 1; values = values_from ws; ranges = desks_from ws }

-- ---- which words are words of what is held: one that stands for a u8 is below 256

unfoldable pub is_byte : List ℕ → ℕ → Bool
is_byte ws i = ltb (word_at ws i) 256

-- two such words; a value's desk and filling, and its issue
unfoldable pub narrow_two : List ℕ → ℕ → Bool
narrow_two ws i = is_byte ws i && is_byte ws (i + 1)

unfoldable pub narrow_value : List ℕ → ℕ → Bool
narrow_value ws i = narrow_two ws i && is_byte ws (i + 3)

-- a desk's ranges, behind their count: each begins with its filling
unfoldable pub narrow_ranges : List ℕ → ℕ → Bool
narrow_ranges ws i = all 8 (λ j. is_byte ws (i + 1 + 3 * j))

-- the named desk, the values and the ranges
unfoldable pub narrow_held : List ℕ → Bool
narrow_held ws = is_byte ws 0 && (all 64 (λ i. narrow_value ws (2 + 4 * i)) && all 4 (λ e. narrow_ranges ws (258 + 25 * e)))

-- lent words have room for a record; what lies past its 358 words is neither read nor written
abbrev pub long_held : List ℕ → Bool
long_held ws = leb held_length (length ws)

-- they are those of a record
unfoldable pub record_in : List ℕ → Bool
record_in ws = long_held ws && narrow_held ws

-- the words of the record, without what lies past them
abbrev pub first_words : List ℕ → List ℕ
first_words ws = tab held_length (word_at ws)

-- what the type of a held record says of it: its arrays have their places, and an issue is a byte
pub record Typed (h : Held) : Type 0 where
  pub values : length h.values ≡ 64
  pub ranges : length h.ranges ≡ 4
  pub list : (e : ℕ) → e < 4 → length (ranges_at h e).list ≡ 8
  pub issue : (i : ℕ) → i < 64 → (held_at h i).pair.value.issue < 256

-- ---- what a store leaves

-- the words are the 358 words of what they mean: what functions that change them ask of them
abbrev pub Whole : List ℕ → Type 0
Whole ws = ws ≡ held_words (words_held ws)

-- the words ws are the 358 words of the record h, and mean it
pub record Holds (ws : List ℕ) (h : Held) : Type 0 where
  pub words : ws ≡ held_words h
  pub means : words_held ws ≡ h

-- the record with another desk named, another count, another value at place i, other ranges of desk e
abbrev pub with_named : Held → ℕ → Held
with_named h d = record { desk = d; count = h.count; values = h.values; ranges = h.ranges }

abbrev pub with_count : Held → ℕ → Held
with_count h n = record { desk = h.desk; count = n; values = h.values; ranges = h.ranges }

abbrev pub with_value_at : Held → ℕ → OwnedValue → Held
with_value_at h i v = record { desk = h.desk; count = h.count; values = set h.values i v; ranges = h.ranges }

abbrev pub with_ranges_at : Held → ℕ → DeskRanges → Held
with_ranges_at h e s = record { desk = h.desk; count = h.count; values = h.values; ranges = set h.ranges e s }
