-- A row's chain in words, as ASCII text (02, Req 08: "row 5 by constraint 1 from row 3 by constraint 0 from row 0 by value 3 of filling 0. With an issue
-- other than 0 the value is followed by issue and its number"; Req 10: "by range low to high of filling number"). That two chains never give one sentence is proved in `proofs/SentenceLaws.antt`.
-- Assumes nothing.
use Rattle.std.specs.Prelude.{ℕ, cond, List, [], ◌∷◌, ◌++◌, eqb}
use Rattle.finite.specs.Decimal.{spaced}
use Rattle.model.specs.Cell.{Cell}
use Rattle.model.specs.Scheme.{Scheme}
use Rattle.model.specs.Database.{Database}
use Rattle.model.specs.Holding.{Holding}
use Rattle.model.specs.Reason.{Origin, by_value, by_range, Chain, by_held, by_constraint, reason_for}

-- "row", " by constraint", " from row", " by value", " issue", " by range", " to", " of filling"
abbrev pub row_word : List ℕ
row_word = 114 ∷ 111 ∷ 119 ∷ []

abbrev pub by-constraint : List ℕ
by-constraint = 32 ∷ 98 ∷ 121 ∷ 32 ∷ 99 ∷ 111 ∷ 110 ∷ 115 ∷ 116 ∷ 114 ∷ 97 ∷ 105 ∷ 110 ∷ 116 ∷ []

abbrev pub from_row : List ℕ
from_row = 32 ∷ 102 ∷ 114 ∷ 111 ∷ 109 ∷ 32 ∷ 114 ∷ 111 ∷ 119 ∷ []

abbrev pub by-value : List ℕ
by-value = 32 ∷ 98 ∷ 121 ∷ 32 ∷ 118 ∷ 97 ∷ 108 ∷ 117 ∷ 101 ∷ []

abbrev pub issue-word : List ℕ
issue-word = 32 ∷ 105 ∷ 115 ∷ 115 ∷ 117 ∷ 101 ∷ []

abbrev pub by-range : List ℕ
by-range = 32 ∷ 98 ∷ 121 ∷ 32 ∷ 114 ∷ 97 ∷ 110 ∷ 103 ∷ 101 ∷ []

abbrev pub to_word : List ℕ
to_word = 32 ∷ 116 ∷ 111 ∷ []

abbrev pub of-filling : List ℕ
of-filling = 32 ∷ 111 ∷ 102 ∷ 32 ∷ 102 ∷ 105 ∷ 108 ∷ 108 ∷ 105 ∷ 110 ∷ 103 ∷ []

-- "With an issue other than 0 the value is followed by issue and its number"
unfoldable pub issue_text : ℕ → List ℕ
issue_text k = cond (eqb k 0) [] (issue-word ++ spaced k)

unfoldable pub cell_text : Cell → List ℕ
cell_text v = spaced v.number ++ issue_text v.issue

-- by value v of filling f, or by range low to high of filling f
unfoldable pub origin_text : Origin → List ℕ
origin_text (by_value p) = by-value ++ (cell_text p.value ++ (of-filling ++ spaced p.filling))
origin_text (by_range q) = by-range ++ (spaced q.low ++ (to_word ++ (spaced q.high ++ (of-filling ++ spaced q.filling))))

-- by constraint i from row s
unfoldable pub link_text : ℕ → ℕ → List ℕ
link_text i s = by-constraint ++ (spaced i ++ (from_row ++ spaced s))

unfoldable pub chain_text : Chain → List ℕ
chain_text (by_held o) = origin_text o
chain_text (by_constraint i s c) = link_text i s ++ chain_text c

unfoldable pub sentence : ℕ → Chain → List ℕ
sentence r c = row_word ++ (spaced r ++ chain_text c)

-- the reason for row r in words
unfoldable pub reason_text : Scheme → Database → Holding → ℕ → List ℕ
reason_text S D h r = sentence r (reason_for S D h r)
