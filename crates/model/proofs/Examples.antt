-- The worked cases a1 to a7 and b1 to b5 of document 01 as one list, under one statement, proved by computation on the definitions.
-- Assumes nothing.
use Prim.Native.Nat.{ℕ}
use mathlib.Core.Path.{◌≡◌, refl}
use mathlib.Core.Bool.{false, ◌&&◌}
use mathlib.Core.List.{List, [], ◌∷◌}
use borrow.Author.Tests.{ltb-true}
use lib.Dec.{eqb, ltb}
use lib.ListN.{length, get_or}
use Rattle.finite.specs.Finite.{any, count, tab, collect, first_of, first_from}
use Rattle.model.specs.Cell.{is_blank, numberless, equal, numbered}
use Rattle.model.specs.Scheme.{Column, same_column, Constraint, candidate, Scheme, is_column}
use Rattle.model.specs.Database.{Database, has}
use Rattle.model.specs.Probe
use Rattle.model.specs.Rounds.{leads, demands, start, reached_from, next, levels, reached, load, added_rows, later_rounds}
use Rattle.finite.specs.Sameness.{listed, remove}
use Rattle.model.specs.Ranges.{some_range}
use Rattle.model.specs.Holding.{same_pair, same_owned, own_among, all_ranges, one, pairs_hold, pairs_want}
use Rattle.model.specs.Runs.{probe, as_lists, Operation, refer, drop, ask, query, taken, marks, marked, Cache, empty_cache, refer_levels, reload_levels, filling_for, output_fits, within_limit, answerable, refers}
use Rattle.model.specs.Query.{Join, joins_fit, unused, operands_fit, join_value, extend, fitting, words_of, full_lists}
use Rattle.model.specs.Answers.{Answer, loaded, dropped, ground, sent, lists, query_ground, is_answered, full_answer, query_answer, shown, has_lists, written_with, query_words}
use Rattle.model.specs.Effects.{effect, reply, answer, written, cache_from}

-- ---- what a case is, and when it passes

-- a design with its rows
pub record Design : Type 0 where
  pub scheme : Scheme
  pub rows : Database

-- an answer, and the words written with it
pub record Result : Type 0 where
  pub answer : Answer
  pub words : List ℕ

-- operations before, then one operation, and what document 01 says that it gives
pub record Case : Type 0 where
  pub design : Design
  pub before : List Operation
  pub operation : Operation
  pub result : Result

-- the cache after the operations before
abbrev pub cache_before : Case → Cache
cache_before c = cache_from c.design.scheme c.design.rows (empty_cache c.design.rows) c.before

-- what the definitions give
unfoldable pub gives : Case → Result
gives c =
    record {
      answer = answer c.design.scheme c.design.rows (cache_before c) c.operation;
      words = written c.design.scheme c.design.rows (cache_before c) c.operation;
    }

infixr 5 ◌and◌
-- each case of the list gives what is expected
pub data AllPass : List Case → Type 0 where
  end : AllPass []
  ◌and◌ : {c : Case} {cs : List Case} → gives c ≡ c.result → AllPass cs → AllPass (c ∷ cs)

-- ---- short names for what a script writes

abbrev col : ℕ → ℕ → Column
col t c = record { table = t; place = c }

-- S.a → T.b
abbrev link : ℕ → ℕ → ℕ → ℕ → Constraint
link s a t b = record { source = col s a; target = col t b }

abbrev join : ℕ → ℕ → Join
join p c = record { position = p; constraint = c }

abbrev REFER : ℕ → ℕ → Operation
REFER f v = refer (record { filling = f; value = numbered v })

abbrev DROP : ℕ → ℕ → Operation
DROP f v = drop (record { filling = f; value = numbered v })

abbrev PROBE : ℕ → ℕ → ℕ → Operation
PROBE t c v = ask (probe (col t c) (numbered v))

-- with 4,096 words lent
abbrev QUERY : ℕ → ℕ → ℕ → ℕ → List Join → Operation
QUERY t c v n js = query (record { column = col t c; value = numbered v; joins = n; pairs = js }) (as_lists 4096)

-- an operation on a design behind others, its answer and its words
abbrev case : Design → List Operation → Operation → Answer → List ℕ → Case
case d os o a ws = record { design = d; before = os; operation = o; result = record { answer = a; words = ws } }

-- a row: its table and its cells
record Row : Type 0 where
  table : ℕ
  cells : List ℕ

abbrev row : ℕ → List ℕ → Row
row t cs = record { table = t; cells = cs }

abbrev row_at : List Row → ℕ → Row
row_at rs r = get_or rs r (row 0 [])

abbrev database : List Row → Database
database rs =
    record {
      size = length rs;
      live = λ r. ltb r (length rs);
      table = λ r. (row_at rs r).table;
      cell = λ r c. numbered (get_or (row_at rs r).cells c 0);
      finite = λ r e. ltb-true r (length rs) e;
    }

-- ---- case A

abbrev A : Design
A =
    record {
      scheme = record {
        tables = 3;
        columns = λ t. 2;
        unique = λ k. eqb k.place 0 && ltb k.table 2;
        constraints = 2;
        constraint = λ i. get_or (link 0 0 1 1 ∷ link 1 0 2 0 ∷ []) i (link 0 0 0 0);
        fillings = 1;
        filling = λ i. record { column = col 0 1; low = 1; high = 99 };
      };
      rows = database
          (row 0 (7 ∷ 3 ∷ []) ∷ row 0 (8 ∷ 3 ∷ []) ∷ row 0 (9 ∷ 4 ∷ []) ∷ row 1 (20 ∷ 7 ∷ []) ∷ row 1 (21 ∷ 9 ∷ []) ∷ row 2 (20 ∷ 5 ∷ []) ∷
          row 2 (20 ∷ 6 ∷ []) ∷ row 2 (21 ∷ 5 ∷ []) ∷ []);
    }

a1 : Case
a1 = case A [] (REFER 0 3) (loaded 5 2) []

a2 : Case
a2 = case A (REFER 0 3 ∷ []) (PROBE 1 1 8) (ground 2 0) []

a3 : Case
a3 = case A (REFER 0 3 ∷ PROBE 1 1 8 ∷ []) (PROBE 1 1 9) sent []

a4 : Case
a4 = case A (REFER 0 3 ∷ PROBE 1 1 8 ∷ PROBE 1 1 9 ∷ []) (QUERY 0 1 3 2 (join 0 0 ∷ join 1 1 ∷ join 0 0 ∷ join 0 0 ∷ [])) (lists 2) (0 ∷ 3 ∷ 5 ∷ 0 ∷ 3 ∷ 6 ∷ [])

a5 : Case
a5 = case A (REFER 0 3 ∷ PROBE 1 1 8 ∷ PROBE 1 1 9 ∷ []) (DROP 0 3) (dropped 5) []

a6 : Case
a6 = case A (REFER 0 3 ∷ []) (PROBE 1 0 20) (ground 3 1) []

a7 : Case
a7 = case A (REFER 0 3 ∷ []) (QUERY 1 1 8 0 (join 0 0 ∷ join 0 0 ∷ join 0 0 ∷ join 0 0 ∷ [])) (lists 0) []

-- ---- case B

abbrev B : Design
B =
    record {
      scheme = record {
        tables = 2;
        columns = λ t. get_or (2 ∷ 1 ∷ []) t 0;
        unique = λ k. false;
        constraints = 2;
        constraint = λ i. get_or (link 0 1 1 0 ∷ link 1 0 0 1 ∷ []) i (link 0 0 0 0);
        fillings = 1;
        filling = λ i. record { column = col 0 0; low = 1; high = 2 };
      };
      rows = database (row 0 (1 ∷ 5 ∷ []) ∷ row 0 (2 ∷ 5 ∷ []) ∷ row 1 (5 ∷ []) ∷ []);
    }

b1 : Case
b1 = case B [] (REFER 0 1) (loaded 3 2) []

b2 : Case
b2 = case B (REFER 0 1 ∷ []) (PROBE 0 0 2) sent []

b3 : Case
b3 = case B (REFER 0 1 ∷ PROBE 0 0 2 ∷ []) (REFER 0 2) (loaded 0 0) []

b4 : Case
b4 = case B (REFER 0 1 ∷ PROBE 0 0 2 ∷ REFER 0 2 ∷ []) (DROP 0 1) (dropped 0) []

b5 : Case
b5 = case B (REFER 0 1 ∷ PROBE 0 0 2 ∷ REFER 0 2 ∷ DROP 0 1 ∷ []) (DROP 0 2) (dropped 3) []

-- ---- all of them

pub cases : List Case
cases = a1 ∷ a2 ∷ a3 ∷ a4 ∷ a5 ∷ a6 ∷ a7 ∷ b1 ∷ b2 ∷ b3 ∷ b4 ∷ b5 ∷ []

-- every case passes
pub all_pass : AllPass cases
unfolding gives cases a1 a2 a3 a4 a5 a6 a7 b1 b2 b3 b4 b5
    effect reply cache_from empty_cache taken candidate listed same_pair same_owned own_among remove refer_levels reload_levels marks marked pairs_hold one pairs_want some_range all_ranges
    load start levels next reached_from demands leads reached added_rows later_rounds
    Probe.probe Probe.cached_rows Probe.demanded Probe.uniquely_seen Probe.seen has same_column is_column is_blank numberless equal
    query_answer query_words query_ground is_answered full_answer filling_for output_fits within_limit answerable refers full_lists written_with has_lists shown operands_fit joins_fit unused fitting extend join_value words_of
    any count tab collect first_of first_from
all_pass =
    ◌and◌ {c = a1} refl (◌and◌ {c = a2} refl (◌and◌ {c = a3} refl (◌and◌ {c = a4} refl (◌and◌ {c = a5} refl (◌and◌ {c = a6} refl (◌and◌ {c = a7} refl (◌and◌ {c = b1} refl (◌and◌ {c = b2} refl (◌and◌ {c = b3} refl (◌and◌ {c = b4} refl (◌and◌ {c = b5} refl end)))))))))))
