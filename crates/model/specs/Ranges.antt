-- Ranges of a filling's values (02, Req 10: "Reviewers load weeks, not single recordings", 003's interval completeness): which values a range has, and a list of
-- ranges that rises and has gaps, into which one more is joined. That joining holds exactly the values of both and keeps the list so is proved in
-- `proofs/RangeLaws.antt`. Assumes nothing.
use Rattle.std.specs.Prelude.{ℕ, ◌+◌, min, max, Bool, false, not, cond, ◌&&◌, ◌||◌, List, [], ◌∷◌, eqb, leb, ltb}
use Rattle.finite.specs.Finite.{lower_then}
use Rattle.model.specs.Cell.{Cell, numbered, is_blank}
use Rattle.model.specs.Scheme.{Column, same_column, candidate, Scheme}
use Rattle.model.specs.Database.{Database}
use Rattle.model.specs.Cache.{RowSet, Held}

-- "filling u8, low u32, high u32", both ends counted
pub record Range : Type 0 where
  pub filling : ℕ
  pub low : ℕ
  pub high : ℕ

unfoldable pub same_range : Range → Range → Bool
same_range a b = eqb a.filling b.filling && (eqb a.low b.low && eqb a.high b.high)

-- v is one of the range's values, which are "at issue 0"
unfoldable pub in_range : Range → Cell → Bool
in_range r v = not (is_blank v) && (eqb v.issue 0 && (leb r.low v.number && leb v.number r.high))

-- ---- the operands

-- the filling exists, and "low 0 or above high" is not so
unfoldable pub is_range : Scheme → Range → Bool
is_range S r = ltb r.filling S.fillings && (leb 1 r.low && leb r.low r.high)

-- "wholly of candidates": its ends are, and so are the values between them, for the candidates are a range
unfoldable pub only_candidates : Scheme → Range → Bool
only_candidates S r = candidate (S.filling r.filling) (numbered r.low) && candidate (S.filling r.filling) (numbered r.high)

-- ---- lists of ranges

-- some range of the list passes the test
unfoldable pub some_range : (Range → Bool) → List Range → Bool
some_range p [] = false
some_range p (r ∷ rs) = p r || some_range p rs

-- a stands before b, and they neither overlap nor touch: it is of a lower filling, or of the same and a value lies between them
unfoldable pub stands_before : Range → Range → Bool
stands_before a b = lower_then a.filling b.filling (ltb (a.high + 1) b.low)

-- the range from the lower low to the higher high
abbrev pub hull : Range → Range → Range
hull r q = record { filling = r.filling; low = min r.low q.low; high = max r.high q.high }

-- "Ranges of a desk's filling that overlap or touch become one": the range r is put into a list that rises and has gaps
unfoldable pub joined : Range → List Range → List Range
joined r [] = r ∷ []
joined r (q ∷ qs) = cond (stands_before q r) (q ∷ joined r qs) (cond (stands_before r q) (r ∷ q ∷ qs) (joined (hull r q) qs))

-- "one inside a held range": r lies inside q
unfoldable pub contains : Range → Range → Bool
contains q r = eqb q.filling r.filling && (leb q.low r.low && leb r.high q.high)

-- ---- what a range holds

-- its values, in its filling's column
unfoldable pub range_holds : Scheme → Range → Held
range_holds S r k v = same_column (S.filling r.filling).column k && in_range r v

-- row s is a row of k's table and has one of them in column k
unfoldable pub has_range : Database → Column → Range → RowSet
has_range D k r s = D.live s && (eqb (D.table s) k.table && in_range r (D.cell s k.place))
