-- What a slice lacks: the fetch that is needed next, found from the slice, what is held, the cached rows and a list of the fetches that were made alone. Nothing
-- lacks exactly if the slice is enough in every lawful database from which these were made (`proofs/MissingLaws.antt`). Assumes nothing.
use Rattle.std.specs.Prelude.{ℕ, zero, suc, ◌-◌, ◌≤◌, ◌<◌, ◌≡◌, Bool, true, false, not, cond, ◌&&◌, ◌||◌, List, [], ◌∷◌, eqb, leb}
use Rattle.finite.specs.Finite.{any, first_from}
use Rattle.model.specs.Cell.{Cell, numbered, is_blank, equal}
use Rattle.model.specs.Scheme.{Column, same_column, Scheme}
use Rattle.model.specs.Database.{Database, Has, has}
use Rattle.model.specs.Cache.{RowSet, Held}
use Rattle.model.specs.Ranges.{Range}
use Rattle.model.specs.Holding.{Owned, Holding, all_ranges}
use Rattle.model.specs.Slice.{Fetched}

-- ---- what was fetched

-- one fetch: all rows with this value in this column, or all with a number from low to high there, both ends counted, at issue 0
pub data Fetch : Type 0 where
  value : Column → Cell → Fetch
  span : Column → ℕ → ℕ → Fetch

-- its column, and the first value that it has there
unfoldable pub fetch_column : Fetch → Column
fetch_column (value k v) = k
fetch_column (span k low high) = k

unfoldable pub fetch_first : Fetch → Cell
fetch_first (value k v) = v
fetch_first (span k low high) = numbered low

-- what it promises: every row of the database that it asks for is in the slice
unfoldable pub Fulfilled : (ℕ → ℕ) → Database → Database → Fetch → Type 0
Fulfilled at D B (value k v) = Fetched at D B k v
Fulfilled at D B (span k low high) = (x : ℕ) → low ≤ x → x ≤ high → Fetched at D B k (numbered x)

-- every fetch of the list
unfoldable pub AllFulfilled : (ℕ → ℕ) → Database → Database → List Fetch → Type 0
AllFulfilled at D B [] = Unit {0}
AllFulfilled at D B (f ∷ fs) = Fulfilled at D B f × AllFulfilled at D B fs

-- the fetch has the value v of column k
unfoldable pub covers : Fetch → Column → Cell → Bool
covers (value j w) k v = same_column j k && equal w v
covers (span j low high) k v = same_column j k && (eqb v.issue 0 && (leb low v.number && leb v.number high))

-- it is a span, and has the number x of column k
unfoldable pub spans : Fetch → Column → ℕ → Bool
spans (value j w) k x = false
spans (span j low high) k x = same_column j k && (leb low x && leb x high)

-- some fetch of the list passes the test
unfoldable pub some_fetch : (Fetch → Bool) → List Fetch → Bool
some_fetch p [] = false
some_fetch p (f ∷ fs) = p f || some_fetch p fs

abbrev pub is_fetched : List Fetch → Column → Cell → Bool
is_fetched fs k v = some_fetch (λ f. covers f k v) fs

abbrev pub is_spanned : List Fetch → Column → ℕ → Bool
is_spanned fs k x = some_fetch (λ f. spans f k x) fs

-- the value is known to be whole: it was fetched, or the column is unique and a row of the slice has it there, for then no other row of the database does
unfoldable pub known : Scheme → Database → List Fetch → Column → Cell → Bool
known S D fs k v = is_fetched fs k v || (S.unique k && any D.size (has D k v))

-- ---- what is needed

-- v of column k is held, or a constraint demands it of a cached row
pub data Needed (S : Scheme) (D : Database) (H : Held) (X : RowSet) (k : Column) (v : Cell) : Type 0 where
  by_held : H k v ≡ true → Needed S D H X k v
  by_row : (i r : ℕ) → i < S.constraints → X r ≡ true → Has D (S.constraint i).source v r → (S.constraint i).target ≡ k → Needed S D H X k v

-- ---- the first that lacks

pub data Lack : Type 0 where
  nothing : Lack
  lacks : Fetch → Lack

abbrev pub or_lack : Lack → Lack → Lack
or_lack nothing b = b
or_lack (lacks f) b = lacks f

-- where v of column k is needed it must still be fetched: it is not blank, and not known to be whole
unfoldable pub is_open : Scheme → Database → List Fetch → Column → Cell → Bool
is_open S D fs k v = not (is_blank v || known S D fs k v)

unfoldable pub lack_of : Scheme → Database → List Fetch → Column → Cell → Lack
lack_of S D fs k v = cond (is_open S D fs k v) (lacks (value k v)) nothing

-- the first of a list, and of the numbers below n
unfoldable pub lack_in : {A : Type 0} → (A → Lack) → List A → Lack
lack_in f [] = nothing
lack_in f (x ∷ xs) = or_lack (f x) (lack_in f xs)

unfoldable pub lack_below : ℕ → (ℕ → Lack) → Lack
lack_below zero f = nothing
lack_below (suc n) f = or_lack (lack_below n f) (f n)

-- of a held value
unfoldable pub pair_lack : Scheme → Database → List Fetch → Owned → Lack
pair_lack S D fs o = lack_of S D fs (S.filling o.pair.filling).column o.pair.value

-- of a held range: its first number that must still be fetched; `high` and one more if there is none
unfoldable pub first_open : Scheme → Database → List Fetch → Column → ℕ → ℕ → ℕ
first_open S D fs k high x = first_from (suc high) (λ y. is_open S D fs k (numbered y)) x

-- ... with the numbers behind it, up to `high`, before the first that a span of the list has
unfoldable pub gap_end : List Fetch → Column → ℕ → ℕ → ℕ
gap_end fs k high x = first_from (suc high) (is_spanned fs k) x - 1

unfoldable pub gap_lack : List Fetch → Column → ℕ → ℕ → Lack
gap_lack fs k high x = cond (leb x high) (lacks (span k x (gap_end fs k high x))) nothing

unfoldable pub range_lack : Scheme → Database → List Fetch → Range → Lack
range_lack S D fs q =
    gap_lack fs (S.filling q.filling).column q.high (first_open S D fs (S.filling q.filling).column q.high q.low)

-- of what constraint i demands of row r, and of what the constraints, rising, demand of it where it is cached
unfoldable pub link_lack : Scheme → Database → List Fetch → ℕ → ℕ → Lack
link_lack S D fs r i =
    cond (eqb (D.table r) (S.constraint i).source.table) (lack_of S D fs (S.constraint i).target (D.cell r (S.constraint i).source.place)) nothing

unfoldable pub row_lack : Scheme → Database → List Fetch → RowSet → ℕ → Lack
row_lack S D fs X r = cond (X r) (lack_below S.constraints (link_lack S D fs r)) nothing

-- held values in order of reference, then held ranges, then cached rows, rising
unfoldable pub missing : Scheme → Database → Holding → RowSet → List Fetch → Lack
missing S D h X fs =
    or_lack (lack_in (pair_lack S D fs) h.values)
    (or_lack (lack_in (range_lack S D fs) (all_ranges h.ranges))
    (lack_below D.size (row_lack S D fs X)))
