-- Reading the value that would open a query off the rows B that lead on to one which gives a ground: of each filling, the lowest candidate among the values
-- of these rows in its column, and the probed value itself if the filling is of its column. Assumes nothing.
use Rattle.std.specs.Prelude.{ℕ, zero, suc, Bool, false, not, cond, ◌&&◌, ◌≡◌, Option, MatchOption, eqb, ltb}
use Rattle.state.specs.declared.cell.Cell as State
use Rattle.state.specs.Meaning.{cell_of}
use Rattle.finite.specs.Finite.{first}
use Rattle.model.specs.Cell.{Cell, blank, numberless}
use Rattle.model.specs.Scheme.{Column, same_column, Filling, candidate, Scheme}
use Rattle.model.specs.Database.{Database}
use Rattle.model.specs.Cache.{RowSet}
use Rattle.model.specs.Answers.{Answer, opened_by, no_opener, or_answer}

-- r is the cell w, which has a number, or there is none and w is blank
abbrev pub Reads : Option State.Cell → Cell → Type 0
Reads r w = MatchOption r (w ≡ blank) (λ x. (cell_of x ≡ w) × (numberless w ≡ false))

-- a stands before b, by number, then issue
unfoldable pub is_before : Cell → Cell → Bool
is_before a b = cond (eqb a.number b.number) (ltb a.issue b.issue) (ltb a.number b.number)

-- the lower of the two, where a cell without a number stands for none
unfoldable pub lower : Cell → Cell → Cell
lower a b = cond (numberless a) b (cond (numberless b) a (cond (is_before b a) b a))

-- the lowest of a, f 0, .. f (n - 1)
unfoldable pub lowest_of : Cell → ℕ → (ℕ → Cell) → Cell
lowest_of a zero f = a
lowest_of a (suc n) f = lower (lowest_of a n f) (f n)

-- the probed value, if the filling is of its column and it is a candidate
unfoldable pub own_value : Column → Cell → Filling → Cell
own_value k v F = cond (same_column F.column k && candidate F v) v blank

-- row r's value in the filling's column, if B has the row and the value is a candidate
unfoldable pub value_in : Database → RowSet → Filling → ℕ → Cell
value_in D B F r =
    let w = D.cell r F.column.place in
    cond (B r && (eqb (D.table r) F.column.table && candidate F w)) w blank

unfoldable pub lowest_value : Database → RowSet → Column → Cell → Filling → Cell
lowest_value D B k v F = lowest_of (own_value k v F) D.size (value_in D B F)

-- filling f has such a value
abbrev pub has_value : Scheme → Database → RowSet → Column → Cell → ℕ → Bool
has_value S D B k v f = not (numberless (lowest_value D B k v (S.filling f)))

unfoldable pub reading : Scheme → Database → RowSet → Column → Cell → Answer
reading S D B k v =
    let f = first S.fillings (has_value S D B k v) in
    let w = lowest_value D B k v (S.filling f) in
    or_answer (ltb f S.fillings) (opened_by f w.number w.issue) no_opener
