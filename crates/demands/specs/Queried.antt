-- Demand 2 of the answer to a query or a total, at a moment of a run, on the tables of that moment. Assumes nothing.
use Rattle.std.specs.Prelude.{ℕ, ◌≡◌, ◌↔◌, ◌≢◌, List, take}
use Rattle.std.proofs.lemmas.List.Edits.{sets}
use Rattle.model.specs.Query.{Query, joins_of, fitting, full_lists, total_over, full_total}
use Rattle.model.specs.Runs.{Output, as_total, marked, Cache}
use Rattle.model.specs.Answers.{Answer, sent, full_answer}
use Rattle.model.specs.Demand.{Groundless, Unreferred, full_words}
use Rattle.state.specs.Meaning.{scheme_of}
use Rattle.state.specs.Lent.{State}
use Rattle.format.specs.Reading.{Draft}
use Rattle.run.specs.Moments.{Moment, tables_at}

-- what is held at the moment, and the marks of the state then
abbrev pub cache_at : Moment → State → Cache
cache_at m e = record { held = m.held; marks = take 512 e.marks }

-- x is the answer to the query q, asked on the state e at the moment m of a run on the design p, which leaves the state e' at the moment m'; the words w are lent, and
-- are w' afterwards. The lists and the total are those from the tables of the moment m.
pub record Queried (p : Draft) (m m' : Moment) (e e' : State) (q : Query) (o : Output) (x : Answer) (w w' : List ℕ) : Type 0 where
  -- a question that isn't refused is sent if and only if the probing rule finds no ground: "judged on the cache after the reference"
  pub backend : (x ≡ sent) ↔ Groundless (scheme_of p.design) (tables_at m) (cache_at m' e') q.column q.value
  -- "It is "sent" exactly if it has no ground and one of these is so: the column has no filling, the value is no candidate, or 64 values are held", a desk's own 16
  pub unreferred : (x ≡ sent) ↔
      (Groundless (scheme_of p.design) (tables_at m) (cache_at m e) q.column q.value × Unreferred (scheme_of p.design) m.held q.column q.value)
  -- otherwise its list equals the list from the full tables, in order, and the words lent have it from the first on; "words after them are untouched"
  pub answer : x ≢ sent → x ≡ full_answer (scheme_of p.design) (tables_at m) q o
  pub words : x ≢ sent → w' ≡ sets w 0 (full_words (scheme_of p.design) (tables_at m) q o)
  pub untouched : x ≡ sent → w' ≡ w
  -- and is "read from cached rows only": the lists, and the sum over them, are those of the rows that are cached then
  pub cached : x ≢ sent →
      full_lists (scheme_of p.design) (tables_at m) q ≡
      fitting (scheme_of p.design) (tables_at m) (marked (take 512 e'.marks)) q.column q.value (joins_of q)
  pub summed : x ≢ sent → (i c : ℕ) → o ≡ as_total i c →
      full_total (scheme_of p.design) (tables_at m) q i c ≡
      total_over (scheme_of p.design) (tables_at m) (marked (take 512 e'.marks)) q.column q.value (joins_of q) i c
