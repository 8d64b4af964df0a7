-- The desk's report as ASCII text (01, "The desk program's report"). Assumes nothing.
use Rattle.std.specs.Prelude.{ℕ, ◌+◌, ◌-◌, ◌*◌, true, cond, List, [], ◌∷◌, ◌++◌, eqb, length, get_or, take}
use Rattle.finite.specs.Finite.{collect}
use Rattle.finite.specs.Decimal.{space, decimal, spaced}
use Rattle.state.specs.declared.answer.Shown.{Shown}
use Rattle.state.specs.declared.design.Design.{Design}
use Rattle.model.specs.Answers.{Answer, shown, is_refusal, has_text, refused_word}

abbrev pub newline : ℕ
newline = 10

-- "loaded", "held", "no candidate", "dropped", "ground", "sent", "answer", "refused", "even", "uneven", "total", "knot", "desk", "open", "none", "absent", "rows", "design"
abbrev pub loaded_word : List ℕ
loaded_word = 108 ∷ 111 ∷ 97 ∷ 100 ∷ 101 ∷ 100 ∷ []

abbrev pub held_word : List ℕ
held_word = 104 ∷ 101 ∷ 108 ∷ 100 ∷ []

abbrev pub no-candidate-words : List ℕ
no-candidate-words = 110 ∷ 111 ∷ 32 ∷ 99 ∷ 97 ∷ 110 ∷ 100 ∷ 105 ∷ 100 ∷ 97 ∷ 116 ∷ 101 ∷ []

abbrev pub dropped-word : List ℕ
dropped-word = 100 ∷ 114 ∷ 111 ∷ 112 ∷ 112 ∷ 101 ∷ 100 ∷ []

abbrev pub ground-word : List ℕ
ground-word = 103 ∷ 114 ∷ 111 ∷ 117 ∷ 110 ∷ 100 ∷ []

abbrev pub sent_word : List ℕ
sent_word = 115 ∷ 101 ∷ 110 ∷ 116 ∷ []

abbrev pub answer_word : List ℕ
answer_word = 97 ∷ 110 ∷ 115 ∷ 119 ∷ 101 ∷ 114 ∷ []

abbrev pub refused-word : List ℕ
refused-word = 114 ∷ 101 ∷ 102 ∷ 117 ∷ 115 ∷ 101 ∷ 100 ∷ []

abbrev pub even-word : List ℕ
even-word = 101 ∷ 118 ∷ 101 ∷ 110 ∷ []

abbrev pub uneven-word : List ℕ
uneven-word = 117 ∷ 110 ∷ 101 ∷ 118 ∷ 101 ∷ 110 ∷ []

abbrev pub total-word : List ℕ
total-word = 116 ∷ 111 ∷ 116 ∷ 97 ∷ 108 ∷ []

abbrev pub knot-word : List ℕ
knot-word = 107 ∷ 110 ∷ 111 ∷ 116 ∷ []

abbrev pub desk-word : List ℕ
desk-word = 100 ∷ 101 ∷ 115 ∷ 107 ∷ []

abbrev pub open-word : List ℕ
open-word = 111 ∷ 112 ∷ 101 ∷ 110 ∷ []

abbrev pub none-word : List ℕ
none-word = 110 ∷ 111 ∷ 110 ∷ 101 ∷ []

abbrev pub absent-word : List ℕ
absent-word = 97 ∷ 98 ∷ 115 ∷ 101 ∷ 110 ∷ 116 ∷ []

abbrev pub rows-word : List ℕ
rows-word = 114 ∷ 111 ∷ 119 ∷ 115 ∷ []

abbrev pub design-word : List ℕ
design-word = 100 ∷ 101 ∷ 115 ∷ 105 ∷ 103 ∷ 110 ∷ []

-- the words of the answers, in the order of their numbers (`shown`). Two have none: "printed as these three numbers" (02, Req 09), and the sentence of a
-- reason (`answer_text`)
abbrev pub answer-words : List (List ℕ)
answer-words = loaded_word ∷ held_word ∷ no-candidate-words ∷ dropped-word ∷ ground-word ∷ sent_word ∷ answer_word ∷ refused-word ∷ even-word ∷ uneven-word ∷ total-word ∷ knot-word ∷ desk-word ∷ open-word ∷ [] ∷ none-word ∷ absent-word ∷ [] ∷ rows-word ∷ []

-- a space, then the word, if there is one
abbrev pub spaced_word : List ℕ → List ℕ
spaced_word [] = []
spaced_word (x ∷ xs) = space ∷ x ∷ xs

unfoldable pub word_text : ℕ → List ℕ
word_text w = spaced_word (get_or answer-words w [])

-- numbers, each behind a space
unfoldable pub numbers_text : List ℕ → List ℕ
numbers_text ns = collect (length ns) (λ _. true) (λ i. spaced (get_or ns i 0))

-- an answer's word and its numbers, each behind a space; the place goes with a refusal
unfoldable pub plain_text : Answer → ℕ → List ℕ
plain_text a place = word_text (shown a).word ++ (numbers_text (shown a).numbers ++ cond (is_refusal a) (spaced place) [])

-- the same of what the code shows of an answer
abbrev pub shown_text : Shown → ℕ → List ℕ
shown_text s place =
    word_text s.word ++
    (collect s.count (λ _. true) (λ i. spaced (get_or s.numbers i 0)) ++
    cond (eqb s.word refused_word) (spaced place) [])

-- how many bytes of text go with an answer: the first number behind its word
abbrev pub bytes_in : Answer → ℕ
bytes_in a = get_or (shown a).numbers 0 0

-- an answer, where `text` is lent: word and numbers; or, behind a space, the text that was written with it, "as .. `row 5 by constraint 1 from row 3 ..`"
-- (02, Req 08)
unfoldable pub answer_text : Answer → ℕ → List ℕ → List ℕ
answer_text a place text = cond (has_text a) (space ∷ take (bytes_in a) text) (plain_text a place)

-- "for each command after END .. its number from 0 and" its answer
unfoldable pub command_line : ℕ → Answer → ℕ → List ℕ → List ℕ
command_line number a place text = decimal number ++ (answer_text a place text ++ (newline ∷ []))

-- "design with tables, constraints, fillings and rows", of which so many were read
unfoldable pub design_line : Design → ℕ → List ℕ
design_line d rows = design-word ++ (spaced d.tables ++ (spaced d.constraints ++ (spaced d.fillings ++ (spaced rows ++ (newline ∷ [])))))

-- "A refused design prints only refused number place"
unfoldable pub refusal_line : ℕ → ℕ → List ℕ
refusal_line n place = refused-word ++ (spaced n ++ (spaced place ++ (newline ∷ [])))

-- one list of row numbers on a line: p numbers (at least one) from word w on
unfoldable pub list_line : List ℕ → ℕ → ℕ → List ℕ
list_line words w p = decimal (get_or words w 0) ++ (collect (p - 1) (λ _. true) (λ j. spaced (get_or words (w + 1 + j) 0)) ++ (newline ∷ []))

-- "each list on a line after it": n lists of p numbers
unfoldable pub list_lines : List ℕ → ℕ → ℕ → List ℕ
list_lines words n p = collect n (λ _. true) (λ i. list_line words (p * i) p)
