-- Lent words, of which the first 358 are those of a record: what they mean, and that they are narrow, depends on these alone; and words that are all 0, which mean
-- that nothing is held. Assumes nothing.
use Prim.Native.Nat.{ℕ, ◌+◌, ◌*◌, ◌%◌, ◌≤◌, ◌<◌}
use native.Mathlib.Omega.{arith}
use mathlib.Core.Path.{◌≡◌, refl, sym, ap, ap₂, ◌∙◌}
use mathlib.Core.Bool.{true, ◌&&◌, and-eq-true_iff}
use mathlib.Core.List.{List}
use lib.ListN.{length, replicate, length-replicate}
use lib.Seq.{sets}
use Rattle.finite.specs.Finite.{all, tab}
use Rattle.finite.proofs.Search.{all_same}
use Rattle.finite.proofs.Stores.{sets-at}
use Rattle.finite.proofs.Tables.{length-tab, tab-at}
use Rattle.state.specs.Held.{none_held}
use Rattle.state.specs.HeldWords.{word_at, held_words, words_held}
use Rattle.state.specs.HeldWords.{is_byte, narrow_two, narrow_value, narrow_ranges, narrow_held, long_held, record_in, first_words, Whole}
use Rattle.state.proofs.HeldWords.{same-held-words, whole_words, whole_long}
use Rattle.state.proofs.HeldStores.{Same, byte-same, value-narrow-same, ranges-narrow-same, values_same, desks-same}

-- ---- words that agree below 358

module _ (a b : List ℕ) (same : (i : ℕ) → i < 358 → word_at a i ≡ word_at b i) where
  part : (i n : ℕ) → i + n ≤ 358 → Same a b i n
  part i n l k p q = same k (omega arith)

  pub means-same : words_held a ≡ words_held b
  unfolding words_held
  means-same =
      let v = values_same a b (part 2 256 (omega arith)) in
      let r = desks-same a b (part 258 100 (omega arith)) in
      λ x. record { desk = same 0 (omega arith) x % 256; count = same 1 (omega arith) x; values = v x; ranges = r x }

  pub narrow-same : narrow_held a ≡ narrow_held b
  unfolding narrow_held
  narrow-same =
      ap₂ ◌&&◌ (byte-same a b 0 (same 0 (omega arith)))
      (ap₂ ◌&&◌ (all_same 64 _ _ (λ j m. value-narrow-same a b (2 + 4 * j) (part (2 + 4 * j) 4 (omega arith))))
      (all_same 4 _ _ (λ j m. ranges-narrow-same a b (258 + 25 * j) (part (258 + 25 * j) 25 (omega arith)))))

-- ---- the first 358 of lent words

module _ (ws : List ℕ) where
  first-at : (i : ℕ) → i < 358 → word_at (first_words ws) i ≡ word_at ws i
  first-at i l = tab-at 0 358 (word_at ws) i l

  pub first-means : words_held (first_words ws) ≡ words_held ws
  first-means = means-same (first_words ws) ws first-at

  pub first-narrow : narrow_held (first_words ws) ≡ narrow_held ws
  first-narrow = narrow-same (first_words ws) ws first-at

  pub first-whole : narrow_held ws ≡ true → Whole (first_words ws)
  first-whole e = whole_words (first_words ws) (length-tab 358 (word_at ws)) (first-narrow ∙ e)

-- words of a record stored there mean it
pub stored-means : (ws held : List ℕ) → 358 ≤ length ws → length held ≡ 358 → words_held (sets ws 0 held) ≡ words_held held
stored-means ws held l e =
    means-same (sets ws 0 held) held
    (λ i b. let z : i ≡ 0 + i = omega arith in ap (λ (k : ℕ). word_at (sets ws 0 held) k) z ∙ sets-at 0 ws 0 held i (omega arith) (omega arith))

-- the words of a record stored there: what they then mean, and that they are its words
pub stored-record : (ws own ws' : List ℕ) → 358 ≤ length ws → Whole own → ws' ≡ sets ws 0 own → (words_held ws' ≡ words_held own) × (ws' ≡ sets ws 0 (held_words (words_held ws')))
stored-record ws own ws' l w e =
    let back = ap words_held e ∙ stored-means ws own l (whole_long own w) in
    (back, e ∙ ap (sets ws 0) (w ∙ ap held_words (sym back)))

-- a record that was not changed
pub same-record-words : (ws : List ℕ) → record_in ws ≡ true → sets ws 0 (held_words (words_held ws)) ≡ ws
unfolding record_in
same-record-words ws e = same-held-words ws ((and-eq-true_iff (long_held ws) (narrow_held ws)).0 e).1

-- ---- all words 0

pub zero-whole : Whole (replicate 358 0)
unfolding is_byte narrow_two narrow_value narrow_ranges narrow_held all
zero-whole = whole_words (replicate 358 0) (length-replicate {A = ℕ} 358 0) refl

pub zero-none : words_held (replicate 358 0) ≡ none_held
unfolding words_held none_held tab
zero-none = refl
