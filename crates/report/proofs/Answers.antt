-- An answer's text: its word, its numbers, and the place of a refusal; or what was written with it. Assumes nothing.
use Prim.Native.Nat.{ℕ, ◌+◌, ◌-◌, ◌≤◌}
use native.Mathlib.Omega.{arith}
use mathlib.Core.Path.{◌≡◌, refl, sym, ap, ◌∙◌}
use mathlib.Core.Bool.{Bool, true, cond}
use mathlib.Core.List.{List, [], ◌∷◌, ◌++◌, append_assoc, append-nil}
use denote.Laws.{Is}
use denote.Struct.Declared.{row}
use mir.Val.{Val}
use borrow.Author.Tests.{eq-eqb, ne_eqb}
use lib.Dec.{eqb}
use lib.ListN.{length, get_or, take, drop, length-drop}
use lib.Seq.{length-take-le, get_or-take, get_or-drop}
use Rattle.finite.proofs.Bools.{cond-true, cond-false}
use Rattle.finite.specs.Finite.{collect}
use Rattle.finite.specs.Writing.{Wrote}
use Rattle.finite.proofs.Collecting.{collect-same}
use Rattle.finite.proofs.Tables.{tab-at}
use Rattle.finite.proofs.Writing.{wrote_as}
use Rattle.state.specs.declared.answer.Answer.{Answer}
use Rattle.state.specs.declared.answer.Shown.{Shown}
use Rattle.state.specs.contracts.answer.Shown.{the_type}
use Rattle.state.specs.Meaning.{answer_of, sixteen, shown_of}
use Rattle.state.proofs.AnswerLaws.{few-numbers}
use Rattle.model.specs.Answers.{shown, is_refusal, has_text, refused_word, explained_word}
use Rattle.finite.specs.Decimal.{space, spaced}
use Rattle.report.specs.Report.{word_text, numbers_text, plain_text, shown_text, bytes_in, answer_text}

-- a number that is not one of the words' lies past them
least : (w : ℕ) → 0 ≤ w
least w = omega arith

next : (w n : ℕ) → (w ≡ n → ⊥) → n ≤ w → n + 1 ≤ w
next w n m l = omega arith

pub past_words : (w : ℕ) → (w ≡ 0 → ⊥) → (w ≡ 1 → ⊥) → (w ≡ 2 → ⊥) → (w ≡ 3 → ⊥) → (w ≡ 4 → ⊥) → (w ≡ 5 → ⊥) → (w ≡ 6 → ⊥) → (w ≡ 7 → ⊥) →
    (w ≡ 8 → ⊥) → (w ≡ 9 → ⊥) → (w ≡ 10 → ⊥) → (w ≡ 11 → ⊥) → (w ≡ 12 → ⊥) → (w ≡ 13 → ⊥) → (w ≡ 14 → ⊥) → (w ≡ 15 → ⊥) → (w ≡ 16 → ⊥) → (w ≡ 17 → ⊥) → (w ≡ 18 → ⊥) → 19 ≤ w
past_words w a b c d e f g h i j k l m n o p q r s =
    next w 18 s (next w 17 r (next w 16 q (next w 15 p (next w 14 o (next w 13 n (next w 12 m (next w 11 l (next w 10 k (next w 9 j (next w 8 i (next w 7 h (next w 6 g (next w 5 f (next w 4 e
    (next w 3 d (next w 2 c (next w 1 b (next w 0 a (least w)))))))))))))))))))

-- the array of what is shown has its sixteen places
pub shown-sized : (s : Shown) (vs : List Val) → Is (row the_type) s vs → length s.numbers ≡ 16
shown-sized s vs g = g.1.1.1.1.0.1.0.1

-- the first k numbers
pub first-numbers : (k : ℕ) (ns : List ℕ) → k ≤ length ns → numbers_text (take k ns) ≡ collect k (λ _. true) (λ i. spaced (get_or ns i 0))
unfolding numbers_text
first-numbers k ns h =
    ap (λ (n : ℕ). collect n (λ _. true) (λ i. spaced (get_or (take k ns) i 0))) (length-take-le k ns h) ∙
    collect-same k (λ _. true) (λ _. true) _ _ (λ _ _. refl) (λ i l _. ap spaced (get_or-take k ns i 0 l))

-- all numbers of a list but the first
pub later-numbers : (list : List ℕ) → numbers_text (take (length list - 1) (drop 1 list)) ≡ collect (length list - 1) (λ _. true) (λ j. spaced (get_or list (0 + 1 + j) 0))
later-numbers list =
    first-numbers (length list - 1) (drop 1 list) (omega (arith, length-drop 1 list)) ∙
    collect-same (length list - 1) (λ _. true) (λ _. true) _ _ (λ _ _. refl) (λ j l _. ap spaced (get_or-drop 1 list j 0))

-- ---- a word, its numbers, and the place of a refusal

-- what is shown, and the place behind a refusal
module _ (s : Shown) (place : ℕ) where
  abbrev pub shown_numbers : List ℕ
  shown_numbers = collect s.count (λ _. true) (λ i. spaced (get_or s.numbers i 0))

  pub shown-plain : (s.word ≡ refused_word → ⊥) → word_text s.word ++ shown_numbers ≡ shown_text s place
  shown-plain n =
      ap (λ (xs : List ℕ). word_text s.word ++ xs)
      (sym (append-nil shown_numbers) ∙ ap (λ (x : Bool). shown_numbers ++ cond x (spaced place) []) (sym (ne_eqb s.word refused_word n)))

  pub shown-refusal : s.word ≡ refused_word → (word_text s.word ++ shown_numbers) ++ spaced place ≡ shown_text s place
  shown-refusal e =
      append_assoc (word_text s.word) shown_numbers (spaced place) ∙
      ap (λ (x : Bool). word_text s.word ++ (shown_numbers ++ cond x (spaced place) [])) (sym (eq-eqb s.word refused_word e))

-- what is shown of the answer a
module _ (s : Shown) (a : Answer) (place : ℕ) (e : s ≡ shown_of (shown (answer_of a))) where
  abbrev word : List ℕ
  word = word_text s.word

  abbrev numbers : List ℕ
  numbers = collect s.count (λ _. true) (λ i. spaced (get_or s.numbers i 0))

  numbers-are : numbers ≡ numbers_text (shown (answer_of a)).numbers
  unfolding numbers_text
  numbers-are =
      let ns = (shown (answer_of a)).numbers in
      ap (λ (x : Shown). collect x.count (λ _. true) (λ i. spaced (get_or x.numbers i 0))) e ∙
      collect-same (length ns) (λ _. true) (λ _. true) (λ i. spaced (get_or (sixteen ns) i 0)) (λ i. spaced (get_or ns i 0)) (λ _ _. refl)
      (λ i l _. ap spaced (tab-at 0 16 (λ j. get_or ns j 0) i (omega (arith, few-numbers a))))

  -- what is shown of an answer is its text
  pub shown-text : shown_text s place ≡ plain_text (answer_of a) place
  unfolding plain_text is_refusal
  shown-text =
      ap (λ (xs : List ℕ). word ++ (xs ++ cond (eqb s.word refused_word) (spaced place) [])) numbers-are ∙
      ap (λ (x : Shown). word_text x.word ++ (numbers_text (shown (answer_of a)).numbers ++ cond (eqb x.word refused_word) (spaced place) [])) e

-- ---- what was written with an answer

-- what is shown of the answer a is s; the writer stands at z
module _ (s : Shown) (a : Answer) (place : ℕ) (text : List ℕ) (e : s ≡ shown_of (shown (answer_of a))) (o o' : List ℕ) (n z : ℕ) where
  has-text : has_text (answer_of a) ≡ eqb s.word explained_word
  unfolding has_text
  has-text = ap (λ (x : Shown). eqb x.word explained_word) (sym e)

  pub without-text : (s.word ≡ explained_word → ⊥) → Wrote o o' n z (shown_text s place) → Wrote o o' n z (answer_text (answer_of a) place text)
  unfolding answer_text
  without-text m =
      wrote_as o o' n z z _ _ refl
      (shown-text s a place e ∙ sym (cond-false (has_text (answer_of a)) _ _ (has-text ∙ ne_eqb s.word explained_word m)))

  bytes-are : get_or s.numbers 0 0 ≡ bytes_in (answer_of a)
  bytes-are = ap (λ (x : Shown). get_or x.numbers 0 0) e ∙ tab-at 0 16 (λ j. get_or (shown (answer_of a)).numbers j 0) 0 (omega arith)

  pub with-text : s.word ≡ explained_word → Wrote o o' n z (space ∷ take (get_or s.numbers 0 0) text) → Wrote o o' n z (answer_text (answer_of a) place text)
  unfolding answer_text
  with-text m =
      wrote_as o o' n z z _ _ refl
      (ap (λ (k : ℕ). space ∷ take k text) bytes-are ∙ sym (cond-true (has_text (answer_of a)) _ _ (has-text ∙ eq-eqb s.word explained_word m)))
