-- What is held: pairs of filling and value, each with the desk that it belongs to, in order of reference, the ranges of each desk, and the desk named last
-- (01, "A held value is a pair of filling and value"; "Held values stand in order of reference; a drop closes the gap"; 02, Req 07 and 10). Only this file
-- and its laws (`proofs/HoldingLaws.antt`, `proofs/RangesHeld.antt`) look inside `Holding`. Assumes nothing.
use Rattle.std.specs.Prelude.{ℕ, zero, suc, Bool, false, cond, ◌&&◌, ◌||◌, List, [], ◌∷◌, ◌++◌, eqb, leb, ltb, length, get_or}
use Rattle.finite.specs.Finite.{any, tab}
use Rattle.finite.specs.Sameness.{listed, remove}
use Rattle.model.specs.Cell.{Cell, numbered, equal}
use Rattle.model.specs.Scheme.{Column, same_column, Scheme}
use Rattle.model.specs.Database.{Database, has}
use Rattle.model.specs.Cache.{RowSet, Held}
use Rattle.model.specs.Ranges.{Range, same_range, some_range, joined, contains, range_holds, has_range}

-- "Four desks, 0 to 3, get 16 each"
abbrev pub desks : ℕ
desks = 4

abbrev pub places : ℕ
places = 16

-- a held value: "a pair of filling and value"
pub record Pair : Type 0 where
  pub filling : ℕ
  pub value : Cell

unfoldable pub same_pair : Pair → Pair → Bool
same_pair p q = eqb p.filling q.filling && equal p.value q.value

-- "Each held value belongs to a desk, two desks may hold the same one"
pub record Owned : Type 0 where
  pub desk : ℕ
  pub pair : Pair

unfoldable pub same_owned : Owned → Owned → Bool
same_owned a b = eqb a.desk b.desk && same_pair a.pair b.pair

-- a desk's own pairs among these, in order of reference
unfoldable pub own_among : ℕ → List Owned → List Pair
own_among d [] = []
own_among d (v ∷ vs) = cond (eqb v.desk d) (v.pair ∷ own_among d vs) (own_among d vs)

-- what is held: the desk named last, "which the state keeps", the values of all desks, and for each desk its list of ranges
pub record Holding : Type 0 where
  pub desk : ℕ
  pub values : List Owned
  pub ranges : List (List Range)

abbrev pub holding : ℕ → List Owned → List (List Range) → Holding
holding d vs rss = record { desk = d; values = vs; ranges = rss }

-- "a run begins at desk 0"
abbrev pub nothing_held : Holding
nothing_held = holding 0 [] (tab desks (λ _. []))

-- a desk "for what follows"
abbrev pub with_desk : Holding → ℕ → Holding
with_desk h d = holding d h.values h.ranges

abbrev pub own_of : ℕ → Holding → List Pair
own_of d h = own_among d h.values

-- a pair of the named desk
abbrev pub mine : Holding → Pair → Owned
mine h p = record { desk = h.desk; pair = p }

-- what is read past the end
abbrev pub no_owned : Owned
no_owned = record { desk = 0; pair = record { filling = 0; value = numbered 0 } }

abbrev pub no_range : Range
no_range = record { filling = 0; low = 0; high = 0 }

-- the pairs of all desks one by one: how many, and each
abbrev pub held_count : Holding → ℕ
held_count h = length h.values

abbrev pub held_pair : Holding → ℕ → Pair
held_pair h i = (get_or h.values i no_owned).pair

-- some desk holds the pair
unfoldable pub some_holds : Holding → Pair → Bool
some_holds h p = any (held_count h) (λ i. same_pair (held_pair h i) p)

-- "whether a pair is listed, and whether there is room for it (fewer than 16), goes by the pairs of the desk then named"
abbrev pub holds : Holding → Pair → Bool
holds h p = listed same_owned (mine h p) h.values

abbrev pub has_room : Holding → Bool
has_room h = ltb (length (own_of h.desk h)) places

-- "the pair goes to the end"
abbrev pub with_pair : Holding → Pair → Holding
with_pair h p = holding h.desk (h.values ++ (mine h p ∷ [])) h.ranges

-- "a listed pair goes and the gap closes"
abbrev pub without_pair : Holding → Pair → Holding
without_pair h p = holding h.desk (remove same_owned (mine h p) h.values) h.ranges

-- ---- the ranges of a desk (02, Req 10)

-- "over 8 for a desk" are too many
abbrev pub most_ranges : ℕ
most_ranges = 8

-- a desk's list
abbrev pub ranges_of : List (List Range) → ℕ → List Range
ranges_of rss d = get_or rss d []

-- the lists with another for desk d; a desk without a list has an empty one
unfoldable pub with_list : List (List Range) → ℕ → List Range → List (List Range)
with_list [] zero rs = rs ∷ []
with_list [] (suc d) rs = [] ∷ with_list [] d rs
with_list (qs ∷ qss) zero rs = rs ∷ qss
with_list (qs ∷ qss) (suc d) rs = qs ∷ with_list qss d rs

-- the ranges of all desks, one list behind the other
unfoldable pub all_ranges : List (List Range) → List Range
all_ranges [] = []
all_ranges (rs ∷ rss) = rs ++ all_ranges rss

-- the named desk's own
abbrev pub own_ranges : Holding → List Range
own_ranges h = ranges_of h.ranges h.desk

abbrev pub with_ranges : Holding → List Range → Holding
with_ranges h rs = holding h.desk h.values (with_list h.ranges h.desk rs)

-- the desk holds exactly this range; the range lies inside one that it holds
abbrev pub holds_range : Holding → Range → Bool
holds_range h r = listed same_range r (own_ranges h)

abbrev pub covers_range : Holding → Range → Bool
covers_range h r = listed contains r (own_ranges h)

-- "a load that would leave the desk more than 8 ranges" finds no room
abbrev pub has_range_room : Holding → Range → Bool
has_range_room h r = leb (length (joined r (own_ranges h))) most_ranges

-- the range is held, and dropped, for the named desk
abbrev pub with_range : Holding → Range → Holding
with_range h r = with_ranges h (joined r (own_ranges h))

abbrev pub without_range : Holding → Range → Holding
without_range h r = with_ranges h (remove same_range r (own_ranges h))

-- the ranges of all desks one by one: how many, and each
abbrev pub range_count : Holding → ℕ
range_count h = length (all_ranges h.ranges)

abbrev pub held_range : Holding → ℕ → Range
held_range h i = get_or (all_ranges h.ranges) i no_range

-- some desk holds the range
unfoldable pub some_holds_range : Holding → Range → Bool
some_holds_range h r = any (range_count h) (λ i. same_range (held_range h i) r)

-- ---- the values that are held, whatever their desk: "The cached rows are the smallest set for all desks together"

-- one value held in one column
unfoldable pub one : Column → Cell → Held
one j w k v = same_column j k && equal w v

-- the values of pairs that are held in each column
unfoldable pub pairs_hold : Scheme → List Owned → Held
pairs_hold S [] k v = false
pairs_hold S (o ∷ os) k v = one (S.filling o.pair.filling).column o.pair.value k v || pairs_hold S os k v

-- row r has one of these values in its filling's column
unfoldable pub pairs_want : Scheme → Database → List Owned → RowSet
pairs_want S D [] r = false
pairs_want S D (o ∷ os) r = has D (S.filling o.pair.filling).column o.pair.value r || pairs_want S D os r

-- the same of ranges: "Every value of a held range counts as held"
abbrev pub ranges_hold : Scheme → List Range → Held
ranges_hold S rs k v = some_range (λ r. range_holds S r k v) rs

abbrev pub ranges_want : Scheme → Database → List Range → RowSet
ranges_want S D rs s = some_range (λ r. has_range D (S.filling r.filling).column r s) rs

-- the values that are held in each column
abbrev pub held_in : Scheme → Holding → Held
held_in S h k v = pairs_hold S h.values k v || ranges_hold S (all_ranges h.ranges) k v

-- the rows that have one of them in its filling's column
abbrev pub wanted : Scheme → Database → Holding → RowSet
wanted S D h r = pairs_want S D h.values r || ranges_want S D (all_ranges h.ranges) r
