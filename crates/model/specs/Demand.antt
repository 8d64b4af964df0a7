-- Demand 2, of a question that isn't refused, and demand 3, of what is held and the rows that are cached. Assumes nothing.
use Rattle.std.specs.Prelude.{ℕ, ◌<◌, ◌≡◌, ◌↔◌, ◌≢◌, true, false, List, []}
use Rattle.model.specs.Cell.{Cell, Fits, numberless}
use Rattle.model.specs.Scheme.{Column, same_column, candidate, Scheme, ColumnOf}
use Rattle.model.specs.Database.{Database}
use Rattle.model.specs.Cache.{RowSet, Complete, Smallest, Alike}
use Rattle.model.specs.Probe.{demanded, uniquely_seen, probe}
use Rattle.model.specs.Holding.{Holding, has_room, held_in}
use Rattle.model.specs.Runs.{Output, as_lists, as_total, query, marked, Cache}
use Rattle.model.specs.Effects.{cache_after}
use Rattle.model.specs.Query.{Query, joins_of, fitting, words_of, full_lists}
use Rattle.model.specs.Answers.{Answer, sent, refused, full_answer, query_answer, query_words}

-- the probing rule finds no ground for v in column k: none of the three applies
pub record Groundless (S : Scheme) (D : Database) (c : Cache) (k : Column) (v : Cell) : Type 0 where
  pub held : held_in S c.held k v ≡ false
  pub demanded : demanded S D (marked c.marks) k v ≡ false
  pub seen : uniquely_seen S D (marked c.marks) k v ≡ false

abbrev pub Unrefused : Answer → Type 0
Unrefused a = (n : ℕ) → a ≢ refused n

-- filling f is one of column k
pub record FillingAt (S : Scheme) (k : Column) (f : ℕ) : Type 0 where
  pub below : f < S.fillings
  pub column : same_column (S.filling f).column k ≡ true

-- no filling column twice, as cause 5 has it
unfoldable pub FillingsApart : Scheme → Type 0
FillingsApart S = (k : Column) (f g : ℕ) → FillingAt S k f → FillingAt S k g → f ≡ g

-- why a query of the value v in column k is not referred (02, Req 02): "the column has no filling, the value is no candidate, or 64 values are held", of which a desk has
-- 16: "Req 02's limit come[s] at one's own 16" (02, Req 07)
pub data Unreferred (S : Scheme) (h : Holding) (k : Column) (v : Cell) : Type 0 where
  no_filling : ((f : ℕ) → FillingAt S k f → ⊥) → Unreferred S h k v
  no_candidate : (f : ℕ) → FillingAt S k f → candidate (S.filling f) v ≡ false → Unreferred S h k v
  full : has_room h ≡ false → Unreferred S h k v

-- the words from the full tables: those of the lists, none with a total
unfoldable pub full_words : Scheme → Database → Query → Output → List ℕ
full_words S D q (as_lists room) = words_of (full_lists S D q)
full_words S D q (as_total p c) = []

-- DEMAND 2, of the query q, where c is the cache before it. "Demand 2, its probe as well as its match with the full tables, is judged on the cache after
-- the reference" (02, Req 02); a total's sum "is the one over the full tables" (02, Req 03), and adds up the same lists.
pub record Demand2 (S : Scheme) (D : Database) (c : Cache) (q : Query) (out : Output) : Type 0 where
  -- it goes to the backend if and only if the probing rule finds no ground
  pub backend : (query_answer S D c q out ≡ sent) ↔ Groundless S D (cache_after S D c (query q out)) q.column q.value
  -- "It is "sent" exactly if it has no ground and one of these is so": it had none before, and is not referred
  pub unreferred : (query_answer S D c q out ≡ sent) ↔ (Groundless S D c q.column q.value × Unreferred S c.held q.column q.value)
  -- else its answer and its words are those from the full tables, and the lists of the full tables are those of the cached rows, in order
  pub answer : query_answer S D c q out ≢ sent → query_answer S D c q out ≡ full_answer S D q out
  pub words : query_answer S D c q out ≢ sent → query_words S D c q out ≡ full_words S D q out
  pub cached : query_answer S D c q out ≢ sent →
      full_lists S D q ≡ fitting S D (marked (cache_after S D c (query q out)).marks) q.column q.value (joins_of q)

-- the cached rows are the smallest row set for the held values; and for each column of the design and each value other than blank, a probe says
-- yes exactly when the value is complete in every lawful database, of any number of rows, from which the same rows would have been cached
pub record Demand3 (S : Scheme) (D : Database) (h : Holding) (X : RowSet) : Type 0 where
  pub smallest : Smallest S D (held_in S h) X
  pub probes : (k : Column) → ColumnOf S k → (v : Cell) → Fits v → numberless v ≡ false →
      (probe S D (held_in S h) X k v ≢ 0) ↔ ((E : Database) → Alike S D (held_in S h) X E → Complete E X k v)
