-- Document 01's case A, fetched bit by bit: what lacks after each fetch, the wrong answer of a slice that isn't enough, and the answer and words of one that is; a
-- held range, fetched gap by gap; and the verdicts on A's columns. Proved by computation on the definitions. Assumes nothing.
use Prim.Native.Nat.{ℕ}
use mathlib.Core.Path.{◌≡◌, refl}
use mathlib.Core.Bool.{true, false, ◌&&◌}
use mathlib.Core.List.{List, [], ◌∷◌, map}
use borrow.Author.Tests.{ltb-true}
use lib.Dec.{eqb, ltb}
use lib.ListN.{length, get_or}
use Rattle.finite.specs.Finite.{any, all, count, tab, collect, first_of, first_from}
use Rattle.finite.specs.Sameness.{listed, remove}
use Rattle.model.specs.Cell.{is_blank, numberless, equal, numbered}
use Rattle.model.specs.Scheme.{Column, same_column, Constraint, candidate, Scheme, is_column}
use Rattle.model.specs.Database.{Database, has}
use Rattle.model.specs.Probe
use Rattle.model.specs.Rounds.{leads, demands, start, reached_from, next, levels, reached, load, added_rows, later_rounds}
use Rattle.model.specs.Even.{linked, reached_by, reaches}
use Rattle.model.specs.Ranges.{some_range}
use Rattle.model.specs.Holding.{same_pair, same_owned, own_among, all_ranges, one, pairs_hold, pairs_want}
use Rattle.model.specs.Runs.{as_lists, Operation, refer, query, taken, marks, marked, Cache, empty_cache, refer_levels, reload_levels, filling_for, output_fits, within_limit, answerable, refers}
use Rattle.model.specs.Query.{Join, joins_fit, unused, operands_fit, join_value, extend, fitting, words_of, full_lists}
use Rattle.model.specs.Answers.{lists, query_ground, is_answered, full_answer, query_answer, shown, has_lists, written_with, query_words}
use Rattle.model.specs.Effects.{effect, reply, answer, written, cache_from}
use Rattle.model.specs.Missing.{Fetch, value, span, covers, spans, some_fetch, known, Lack, nothing, lacks, is_open, lack_of, lack_in, lack_below, pair_lack, first_open, gap_end, gap_lack, range_lack, link_lack, row_lack, missing}
use Rattle.model.specs.Verdict.{fetches, can_cache, links_to, once_linked, once_unique, once_here, never, elsewhere_or, is_one_column}

abbrev col : ℕ → ℕ → Column
col t c = record { table = t; place = c }

abbrev link : ℕ → ℕ → ℕ → ℕ → Constraint
link s a t b = record { source = col s a; target = col t b }

abbrev join : ℕ → ℕ → Join
join p c = record { position = p; constraint = c }

-- a row: its table and its cells
record Row : Type 0 where
  table : ℕ
  cells : List ℕ

abbrev row : ℕ → ℕ → ℕ → Row
row t a b = record { table = t; cells = a ∷ b ∷ [] }

abbrev row_at : List Row → ℕ → Row
row_at rs r = get_or rs r (record { table = 0; cells = [] })

abbrev rows : List Row → Database
rows rs =
    record {
      size = length rs;
      live = λ r. ltb r (length rs);
      table = λ r. (row_at rs r).table;
      cell = λ r c. numbered (get_or (row_at rs r).cells c 0);
      finite = λ r e. ltb-true r (length rs) e;
    }

-- case A's design
abbrev A : Scheme
A =
    record {
      tables = 3;
      columns = λ t. 2;
      unique = λ k. eqb k.place 0 && ltb k.table 2;
      constraints = 2;
      constraint = λ i. get_or (link 0 0 1 1 ∷ link 1 0 2 0 ∷ []) i (link 0 0 0 0);
      fillings = 1;
      filling = λ i. record { column = col 0 1; low = 1; high = 99 };
    }

-- the rows with 3 in 0.1; then those with 7 in 1.1; then those with 20 in 2.0. Those with 8 in 1.1 are none
abbrev d1 : Database
d1 = rows (row 0 7 3 ∷ row 0 8 3 ∷ [])

abbrev d2 : Database
d2 = rows (row 0 7 3 ∷ row 0 8 3 ∷ row 1 20 7 ∷ [])

abbrev d4 : Database
d4 = rows (row 0 7 3 ∷ row 0 8 3 ∷ row 1 20 7 ∷ row 2 20 5 ∷ row 2 20 6 ∷ [])

abbrev f1 : List Fetch
f1 = value (col 0 1) (numbered 3) ∷ []

abbrev f2 : List Fetch
f2 = value (col 1 1) (numbered 7) ∷ f1

abbrev f3 : List Fetch
f3 = value (col 1 1) (numbered 8) ∷ f2

abbrev f4 : List Fetch
f4 = value (col 2 0) (numbered 20) ∷ f3

-- the cache after REFER 0 3
abbrev after : Database → Cache
after D = cache_from A D (empty_cache D) (refer (record { filling = 0; value = numbered 3 }) ∷ [])

abbrev lack : Database → List Fetch → Lack
lack D fs = missing A D (after D).held (marked (after D).marks) fs

-- a4's query
abbrev q : Operation
q = query (record { column = col 0 1; value = numbered 3; joins = 2; pairs = join 0 0 ∷ join 1 1 ∷ join 0 0 ∷ join 0 0 ∷ [] }) (as_lists 4096)

-- d4's rows under case A's numbers
abbrev in_a : ℕ → ℕ
in_a r = get_or (0 ∷ 1 ∷ 3 ∷ 5 ∷ 6 ∷ []) r 0

pub record Fetching : Type 0 where
  pub unasked : lack d1 [] ≡ lacks (value (col 0 1) (numbered 3))
  pub first : lack d1 f1 ≡ lacks (value (col 1 1) (numbered 7))
  -- the certain wrong answer of a slice that isn't enough: a4 has 2 lists
  pub wrong : answer A d1 (after d1) q ≡ lists 0
  pub second : lack d2 f2 ≡ lacks (value (col 1 1) (numbered 8))
  pub third : lack d2 f3 ≡ lacks (value (col 2 0) (numbered 20))
  pub last : lack d4 f4 ≡ nothing
  -- and a4's answer and words, under case A's numbers
  pub right : answer A d4 (after d4) q ≡ lists 2
  pub words : map in_a (written A d4 (after d4) q) ≡ 0 ∷ 3 ∷ 5 ∷ 0 ∷ 3 ∷ 6 ∷ []

pub case-a : Fetching
unfolding missing lack_in lack_below lack_of pair_lack range_lack link_lack row_lack known is_open some_fetch covers
    effect reply cache_from empty_cache taken candidate listed same_pair same_owned own_among remove refer_levels reload_levels marks marked pairs_hold one pairs_want some_range all_ranges
    load start levels next reached_from demands leads reached added_rows later_rounds
    Probe.probe Probe.cached_rows Probe.demanded Probe.uniquely_seen Probe.seen has same_column is_column is_blank numberless equal
    query_answer query_words query_ground is_answered full_answer filling_for output_fits within_limit answerable refers full_lists written_with has_lists shown operands_fit joins_fit unused fitting extend join_value words_of
    any count tab collect first_of first_from
case-a = record { unasked = refl; first = refl; wrong = refl; second = refl; third = refl; last = refl; right = refl; words = refl }

-- the verdicts on case A's columns: 0.1 is loaded; 0.0 and 1.0 are unique, 1.1 and 2.0 ends of constraints; 2.1 is neither, and always sent
pub record Verdicts : Type 0 where
  pub loaded : fetches A (col 0 1) ≡ true
  pub unique : once_unique A (col 1 0) ≡ true
  pub linked : once_linked A (col 2 0) ≡ true
  pub lost : never A (col 2 1) ≡ true
  pub seen : is_one_column A (col 1 1) ≡ true
  pub unseen : is_one_column A (col 1 0) ≡ false

pub verdicts-a : Verdicts
unfolding fetches can_cache links_to once_linked once_unique once_here never elsewhere_or is_one_column reaches reached_by linked same_column any all
verdicts-a = record { loaded = refl; unique = refl; linked = refl; lost = refl; seen = refl; unseen = refl }

-- a held range from 2 to 9 of 0.1 is fetched gap by gap: what is asked for ends where a span begins
abbrev week : List Fetch → Lack
week fs = range_lack A (rows []) fs (record { filling = 0; low = 2; high = 9 })

pub record Gaps : Type 0 where
  pub whole : week [] ≡ lacks (span (col 0 1) 2 9)
  pub first : week (span (col 0 1) 4 5 ∷ []) ≡ lacks (span (col 0 1) 2 3)
  pub second : week (span (col 0 1) 1 5 ∷ value (col 0 1) (numbered 7) ∷ []) ≡ lacks (span (col 0 1) 6 9)
  pub last : week (span (col 0 1) 1 8 ∷ value (col 0 1) (numbered 9) ∷ []) ≡ nothing

pub gaps : Gaps
unfolding range_lack first_open gap_lack gap_end is_open known some_fetch covers spans is_blank same_column equal any first_of first_from has
gaps = record { whole = refl; first = refl; second = refl; last = refl }
