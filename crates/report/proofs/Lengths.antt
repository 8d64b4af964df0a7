-- How long a report's texts and lines are, and how far a writer gets with them. Assumes nothing.
use Prim.Native.Nat.{ℕ, zero, suc, ◌+◌, ◌-◌, ◌*◌, ◌^◌, ◌≤◌, ◌<◌}
use native.Mathlib.Nat.{suc-mul, mul-add, mul_comm, mul-one, mul-le-mul_left}
use native.Mathlib.Omega.{arith}
use mathlib.Core.Path.{◌≡◌, refl, ap, ap₂, ◌∙◌}
use mathlib.Core.Bool.{Bool, true, false, cond}
use mathlib.Core.List.{List, [], ◌∷◌, ◌++◌}
use lib.ListN.{length, length-append, length-take, length-drop, get_or, take, drop}
use lib.Seq.{length-take-le, get_or-take, get_or-drop}
use Rattle.finite.specs.Finite.{collect}
use Rattle.finite.specs.Writing.{Wrote}
use Rattle.finite.proofs.Collecting.{collect-most, collect-same}
use Rattle.finite.proofs.Writing.{reach}
pub use Rattle.text.proofs.Reach.{bytes-reach, decimal-reach, decimal-reach-32, spaced-reach, spaced-reach-32}
use Rattle.state.specs.declared.design.Design.{Design}
use Rattle.state.specs.declared.answer.Answer.{Answer}
use Rattle.state.specs.Meaning.{answer_of}
use Rattle.state.proofs.AnswerLaws.{few-numbers}
use Rattle.model.specs.Answers.{shown, is_refusal, has_text}
use Rattle.finite.specs.Decimal.{space, decimal, spaced}
use Rattle.report.specs.Report.{newline, word_text, numbers_text, plain_text, bytes_in, answer_text, command_line, design_line, refusal_line, list_line, list_lines}
use Rattle.finite.proofs.Decimals.{decimal-short, decimal-short-32}

-- ---- how long

pub word-short : (w : ℕ) → length (word_text w) ≤ 13
unfolding word_text
word-short zero = omega arith
word-short (suc zero) = omega arith
word-short (suc (suc zero)) = omega arith
word-short (suc (suc (suc zero))) = omega arith
word-short (suc (suc (suc (suc zero)))) = omega arith
word-short (suc (suc (suc (suc (suc zero))))) = omega arith
word-short (suc (suc (suc (suc (suc (suc zero)))))) = omega arith
word-short (suc (suc (suc (suc (suc (suc (suc zero))))))) = omega arith
word-short (suc (suc (suc (suc (suc (suc (suc (suc zero)))))))) = omega arith
word-short (suc (suc (suc (suc (suc (suc (suc (suc (suc zero))))))))) = omega arith
word-short (suc (suc (suc (suc (suc (suc (suc (suc (suc (suc zero)))))))))) = omega arith
word-short (suc (suc (suc (suc (suc (suc (suc (suc (suc (suc (suc zero))))))))))) = omega arith
word-short (suc (suc (suc (suc (suc (suc (suc (suc (suc (suc (suc (suc zero)))))))))))) = omega arith
word-short (suc (suc (suc (suc (suc (suc (suc (suc (suc (suc (suc (suc (suc zero))))))))))))) = omega arith
word-short (suc (suc (suc (suc (suc (suc (suc (suc (suc (suc (suc (suc (suc (suc zero)))))))))))))) = omega arith
word-short (suc (suc (suc (suc (suc (suc (suc (suc (suc (suc (suc (suc (suc (suc (suc zero))))))))))))))) = omega arith
word-short (suc (suc (suc (suc (suc (suc (suc (suc (suc (suc (suc (suc (suc (suc (suc (suc zero)))))))))))))))) = omega arith
word-short (suc (suc (suc (suc (suc (suc (suc (suc (suc (suc (suc (suc (suc (suc (suc (suc (suc zero))))))))))))))))) = omega arith
word-short (suc (suc (suc (suc (suc (suc (suc (suc (suc (suc (suc (suc (suc (suc (suc (suc (suc (suc zero)))))))))))))))))) = omega arith
word-short (suc (suc (suc (suc (suc (suc (suc (suc (suc (suc (suc (suc (suc (suc (suc (suc (suc (suc (suc w))))))))))))))))))) = omega arith

-- numbers, each behind a space
spaced-short : (k : ℕ) (f : ℕ → ℕ) → length (collect k (λ _. true) (λ i. spaced (f i))) ≤ 21 * k
spaced-short k f = omega (arith, collect-most k 21 (λ _. true) (λ i. spaced (f i)) (λ i. omega (arith, decimal-short (f i))), mul_comm k 21)

numbers-short : (ns : List ℕ) → length (numbers_text ns) ≤ 21 * length ns
unfolding numbers_text
numbers-short ns = spaced-short (length ns) (λ i. get_or ns i 0)

plain-short : (a : Answer) (place : ℕ) → length (plain_text (answer_of a) place) ≤ 370
unfolding plain_text
plain-short a place =
    let s = shown (answer_of a) in
    simp length-append (omega (arith, word-short s.word, numbers-short s.numbers, few-numbers a, place_short (is_refusal (answer_of a))))
  where
    place_short : (b : Bool) → length (cond b (spaced place) []) ≤ 21
    place_short true = omega (arith, decimal-short place)
    place_short false = omega arith

-- a text may stand in place of the words
answer-short : (a : Answer) (place : ℕ) (text : List ℕ) → length (answer_text (answer_of a) place text) ≤ 370 + length text
unfolding answer_text
answer-short a place text = go (has_text (answer_of a))
  where
    go : (b : Bool) → length (cond b (space ∷ take (bytes_in (answer_of a)) text) (plain_text (answer_of a) place)) ≤ 370 + length text
    go true = omega (arith, length-take (bytes_in (answer_of a)) text)
    go false = omega (arith, plain-short a place)

pub command-line-short : (number : ℕ) (a : Answer) (place : ℕ) (text : List ℕ) → length (command_line number (answer_of a) place text) ≤ 391 + length text
unfolding command_line
command-line-short number a place text = simp length-append (omega (arith, decimal-short number, answer-short a place text))

pub design-line-short : (d : Design) (rows : ℕ) → length (design_line d rows) ≤ 91
unfolding design_line
design-line-short d rows =
    simp length-append (omega (arith, decimal-short d.tables, decimal-short d.constraints, decimal-short d.fillings, decimal-short rows))

pub refusal-line-short : (n place : ℕ) → length (refusal_line n place) ≤ 50
unfolding refusal_line
refusal-line-short n place = simp length-append (omega (arith, decimal-short n, decimal-short place))

-- lists of words, each below 2 ^ 32
module _ (words : List ℕ) (small : (i : ℕ) → get_or words i 0 < 2 ^ 32) where
  words-short : (w n : ℕ) → length (collect n (λ _. true) (λ j. spaced (get_or words (w + j) 0))) ≤ 11 * n
  unfolding collect
  words-short w zero = omega arith
  words-short w (suc n) = rw length-append (omega (arith, words-short w n, decimal-short-32 (get_or words (w + n) 0) (small (w + n))))

  pub list-line-short : (w p : ℕ) → 1 ≤ p → length (list_line words w p) ≤ 11 * p
  unfolding list_line
  list-line-short w p h = simp length-append (omega (arith, decimal-short-32 (get_or words w 0) (small w), words-short (w + 1) (p - 1)))

  lines-short : (n p : ℕ) → 1 ≤ p → length (collect n (λ _. true) (λ i. list_line words (p * i) p)) ≤ 11 * (n * p)
  unfolding collect
  lines-short zero p h = omega arith
  lines-short (suc n) p h = rw length-append (omega (arith, lines-short n p h, list-line-short (p * n) p h, suc-mul n p))

  pub list-lines-short : (n p : ℕ) → 1 ≤ p → length (list_lines words n p) ≤ 11 * (n * p)
  unfolding list_lines
  list-lines-short n p h = lines-short n p h

-- ---- how far

-- a writer that wrote from n on stands at z
module _ (o o' : List ℕ) (n z : ℕ) where
  pub word-reach : (w : ℕ) → Wrote o o' n z (word_text w) → z ≤ n + 13
  word-reach w = reach o o' n z (word_text w) 13 (word-short w)

  pub numbers-reach : (k : ℕ) (ns : List ℕ) → Wrote o o' n z (collect k (λ _. true) (λ i. spaced (get_or ns i 0))) → z ≤ n + 21 * k
  numbers-reach k ns = reach o o' n z _ (21 * k) (spaced-short k (λ i. get_or ns i 0))

  pub answer-reach : (a : Answer) (place : ℕ) (text : List ℕ) → Wrote o o' n z (answer_text (answer_of a) place text) → z ≤ n + (370 + length text)
  answer-reach a place text = reach o o' n z (answer_text (answer_of a) place text) (370 + length text) (answer-short a place text)

  pub command-line-reach : (number : ℕ) (a : Answer) (place : ℕ) (text : List ℕ) → Wrote o o' n z (command_line number (answer_of a) place text) →
      z ≤ n + (391 + length text)
  command-line-reach number a place text =
      reach o o' n z (command_line number (answer_of a) place text) (391 + length text) (command-line-short number a place text)

  pub design-line-reach : (d : Design) (rows : ℕ) → Wrote o o' n z (design_line d rows) → z ≤ n + 91
  design-line-reach d rows = reach o o' n z (design_line d rows) 91 (design-line-short d rows)

  pub refusal-line-reach : (cause place : ℕ) → Wrote o o' n z (refusal_line cause place) → z ≤ n + 50
  refusal-line-reach cause place = reach o o' n z (refusal_line cause place) 50 (refusal-line-short cause place)

  module _ (words : List ℕ) (small : (i : ℕ) → get_or words i 0 < 2 ^ 32) where
    pub words-reach : (w k : ℕ) → Wrote o o' n z (collect k (λ _. true) (λ j. spaced (get_or words (w + j) 0))) → z ≤ n + 11 * k
    words-reach w k = reach o o' n z _ (11 * k) (words-short words small w k)

    pub list-line-reach : (w p : ℕ) → 1 ≤ p → Wrote o o' n z (list_line words w p) → z ≤ n + 11 * p
    list-line-reach w p h = reach o o' n z (list_line words w p) (11 * p) (list-line-short words small w p h)

    pub list-lines-reach : (k p : ℕ) → 1 ≤ p → Wrote o o' n z (list_lines words k p) → z ≤ n + 11 * (k * p)
    list-lines-reach k p h = reach o o' n z (list_lines words k p) (11 * (k * p)) (list-lines-short words small k p h)

-- ---- p words from word w on, as a list of their own

module _ (words : List ℕ) (w p : ℕ) (room : w + p ≤ length words) where
  abbrev pub part : List ℕ
  part = take (w + p - w) (drop w words)

  pub part-long : length part ≡ p
  part-long = let e : w + p - w ≡ p = omega arith in
      ap (λ (k : ℕ). length (take k (drop w words))) e ∙ length-take-le p (drop w words) (omega (arith, length-drop w words))

  part-at : (j : ℕ) → j < p → get_or part j 0 ≡ get_or words (w + j) 0
  part-at j l = get_or-take (w + p - w) (drop w words) j 0 (omega arith) ∙ get_or-drop w words j 0

  -- the line of that list
  pub part-line : 1 ≤ p → list_line part 0 (length part) ≡ list_line words w p
  unfolding list_line
  part-line h =
      ap (λ (k : ℕ). list_line part 0 k) part-long ∙
      ap₂ (λ (x : ℕ) (xs : List ℕ). decimal x ++ (xs ++ (newline ∷ []))) (part-at 0 (omega arith) ∙ ap (λ (k : ℕ). get_or words k 0) (omega arith))
      (collect-same (p - 1) (λ _. true) (λ _. true) _ _ (λ _ _. refl)
      (λ j l _. ap spaced (part-at (0 + 1 + j) (omega arith) ∙ ap (λ (k : ℕ). get_or words k 0) (omega arith))))

-- ---- where list i of n lists of p words stands

pub list-next : (p i : ℕ) → p * (i + 1) ≡ p * i + p
list-next p i = mul-add p i 1 ∙ ap (λ (k : ℕ). p * i + k) (mul-one p)

pub list-within : (n p i : ℕ) → i < n → p * i + p ≤ n * p
list-within n p i h = omega (arith, list-next p i, mul-le-mul_left {m = i + 1} {n = n} p (omega arith), mul_comm n p)
