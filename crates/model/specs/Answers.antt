-- What the operations answer, and the causes of refusal that an operation itself can have: 5, 9, then 10, 8 or 11 (01, "What the operations do"
-- and "Causes of refusal"), and 13 (02, Req 03). Assumes nothing.
use Rattle.std.specs.Prelude.{ℕ, ◌≡◌, Bool, true, false, not, cond, ◌||◌, List, [], ◌∷◌, eqb, ltb, length}
use Rattle.model.specs.Cell.{Cell, numberless}
use Rattle.model.specs.Scheme.{Column, Scheme}
use Rattle.model.specs.Database.{Database}
use Rattle.model.specs.Probe
use Rattle.model.specs.Even.{uneven_from, lowest_uneven}
use Rattle.model.specs.Knot.{is_uneven_scheme, knot_of}
use Rattle.model.specs.Holding.{held_in}
use Rattle.model.specs.Opener.{is_open, lowest_filling, lowest_number, lowest_issue}
use Rattle.model.specs.Sentence.{reason_text}
use Rattle.model.specs.Runs.{Output, as_lists, as_total, taken, pair_for, output_fits, within_limit, marked, Cache}
use Rattle.model.specs.Query.{Query, words_of, full_lists, full_total}

-- `loaded` rows rounds, `held`, `no candidate`, `dropped` rows, `ground` g rows, `sent`, `answer` lists, `refused` number; `even`, `uneven` i j (02, Req 01);
-- `total` n (02, Req 03); `knot` constraints (02, Req 11); `desk` d (02, Req 07); `open`, filling number issue, `none` (02, Req 09); `absent`, and a reason in
-- words, which answers the length of the text (02, Req 08); `rows` came went (02, Req 12)
pub data Answer : Type 0 where
  loaded : ℕ → ℕ → Answer
  held no_candidate : Answer
  dropped : ℕ → Answer
  ground : ℕ → ℕ → Answer
  sent : Answer
  lists : ℕ → Answer
  refused : ℕ → Answer
  even : Answer
  uneven : ℕ → ℕ → Answer
  total : ℕ → Answer
  knot : List ℕ → Answer
  named : ℕ → Answer
  opened : Answer
  opened_by : ℕ → ℕ → ℕ → Answer
  no_opener : Answer
  absent : Answer
  explained : ℕ → Answer
  changed : ℕ → ℕ → Answer

-- an answer as the report shows it: its word, by number, and the numbers behind it. Whatever depends on what an answer is goes through this
pub record Shown : Type 0 where
  pub word : ℕ
  pub numbers : List ℕ

abbrev pub lists_word : ℕ
lists_word = 6

abbrev pub refused_word : ℕ
refused_word = 7

abbrev pub explained_word : ℕ
explained_word = 17

unfoldable pub shown : Answer → Shown
shown (loaded rows rounds) = record { word = 0; numbers = rows ∷ rounds ∷ [] }
shown held = record { word = 1; numbers = [] }
shown no_candidate = record { word = 2; numbers = [] }
shown (dropped rows) = record { word = 3; numbers = rows ∷ [] }
shown (ground g rows) = record { word = 4; numbers = g ∷ rows ∷ [] }
shown sent = record { word = 5; numbers = [] }
shown (lists n) = record { word = lists_word; numbers = n ∷ [] }
shown (refused n) = record { word = refused_word; numbers = n ∷ [] }
shown even = record { word = 8; numbers = [] }
shown (uneven i j) = record { word = 9; numbers = i ∷ j ∷ [] }
shown (total n) = record { word = 10; numbers = n ∷ [] }
shown (knot ks) = record { word = 11; numbers = ks }
shown (named d) = record { word = 12; numbers = d ∷ [] }
shown opened = record { word = 13; numbers = [] }
shown (opened_by f n i) = record { word = 14; numbers = f ∷ n ∷ i ∷ [] }
shown no_opener = record { word = 15; numbers = [] }
shown absent = record { word = 16; numbers = [] }
shown (explained n) = record { word = explained_word; numbers = n ∷ [] }
shown (changed came went) = record { word = 18; numbers = came ∷ went ∷ [] }

-- the answer has lists; it is a refusal; it has a text
unfoldable pub has_lists : Answer → Bool
has_lists a = eqb (shown a).word lists_word

unfoldable pub is_refusal : Answer → Bool
is_refusal a = eqb (shown a).word refused_word

unfoldable pub has_text : Answer → Bool
has_text a = eqb (shown a).word explained_word

-- the refusal where its cause applies, else what comes after it in the order of causes
abbrev pub unless : Bool → ℕ → Answer → Answer
unless true n a = refused n
unless false n a = a

abbrev pub or_answer : Bool → Answer → Answer → Answer
or_answer true a b = a
or_answer false a b = b

-- "a yes; if none does, sent". A yes carries "how many cached rows of the probed table have the value in the probed column" (02, Req 04)
abbrev pub ground_of : ℕ → ℕ → Answer
ground_of g rows = or_answer (ltb 0 g) (ground g rows) sent

-- the answer is a yes
abbrev pub Yes : Answer → Type 0
Yes a = (g : ℕ) × (rows : ℕ) × (a ≡ ground g rows)

-- "`even`, or `uneven` with the lowest i and then the lowest j"
unfoldable pub even_answer : Scheme → Answer
even_answer S = or_answer (ltb (lowest_uneven S) S.constraints) (uneven (lowest_uneven S) (uneven_from S (lowest_uneven S))) even

-- "`knot` and, rising, the numbers"; "`even` for an even design" (02, Req 11)
unfoldable pub knot_answer : Scheme → Answer
knot_answer S = or_answer (is_uneven_scheme S) (knot (knot_of S)) even

-- "`open` if the probe has a ground; else the lowest filling, then the lowest value, then issue, whose single reference would give one ..; else `none`"
-- (02, Req 09)
unfoldable pub opener_answer : Scheme → Database → Cache → Column → Cell → Answer
opener_answer S D c k v =
    let f = lowest_filling S D k v c in
    let n = lowest_number S D k v c f in
    or_answer (is_open S D k v c) opened (or_answer (ltb f S.fillings) (opened_by f n (lowest_issue S D k v c f n)) no_opener)

-- "A row that isn't cached prints absent and writes no text. It refuses a row number that names nothing with 5, and a sentence longer than the lent text
-- with 11"
unfoldable pub reason_answer : Scheme → Database → Cache → ℕ → ℕ → Answer
reason_answer S D c r room =
    let n = length (reason_text S D c.held r) in
    unless (not (D.live r)) 5
    (or_answer (not (marked c.marks r)) absent
    (unless (ltb room n) 11
    (explained n)))

-- the text that is written with an answer: t with a reason, and none with any other
unfoldable pub text_with : Answer → List ℕ → List ℕ
text_with a t = cond (has_text a) t []

-- ---- queries

-- the probe of position 0
unfoldable pub query_ground : Scheme → Database → Cache → Query → ℕ
query_ground S D c q = Probe.probe S D (held_in S c.held) (marked c.marks) q.column q.value

-- the query is answered: it has a ground, or it is referred first (02, Req 02)
unfoldable pub is_answered : Scheme → Database → Cache → Query → Bool
is_answered S D c q = not (eqb (query_ground S D c q) 0) || taken S c.held (pair_for S q)

-- the answer from the full tables
unfoldable pub full_answer : Scheme → Database → Query → Output → Answer
full_answer S D q (as_lists room) = lists (length (full_lists S D q))
full_answer S D q (as_total p c) = total (full_total S D q p c)

-- the cause where that passes its limit
abbrev pub limit_cause : Output → ℕ
limit_cause (as_lists room) = 11
limit_cause (as_total p c) = 13

unfoldable pub query_answer : Scheme → Database → Cache → Query → Output → Answer
query_answer S D c q out =
    unless (not (output_fits S q out)) 5
    (unless (numberless q.value) 9
    (or_answer (not (is_answered S D c q)) sent
    (unless (not (within_limit S D q out)) (limit_cause out)
    (full_answer S D q out))))

-- the words that are written with an answer: ws with lists, and none with any other
unfoldable pub written_with : Answer → List ℕ → List ℕ
written_with a ws = cond (has_lists a) ws []

unfoldable pub query_words : Scheme → Database → Cache → Query → Output → List ℕ
query_words S D c q out = written_with (query_answer S D c q out) (words_of (full_lists S D q))
