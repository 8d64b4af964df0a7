-- How many cached rows stand behind a yes, and that a query without joins has exactly that many lists (02, Req 04). Assumes nothing.
use Prim.Native.Nat.{ℕ, zero, suc, ◌+◌}
use mathlib.Core.Path.{◌≡◌, refl, sym, ap, ap₂, ◌∙◌}
use mathlib.Core.Logic.{◌≢◌}
use mathlib.Core.Bool.{Bool, true, false, cond, ◌&&◌}
use mathlib.Core.List.{List, [], ◌∷◌}
use borrow.Author.Tests.{eq-eqb, ne_eqb}
use lib.Dec.{eqb}
use lib.ListN.{length, length-append, take}
use Rattle.finite.specs.Finite.{count, collect}
use Rattle.finite.proofs.Bools.{cond-true, cond-false}
use Rattle.model.specs.Cell.{Cell}
use Rattle.model.specs.Scheme.{Column, Scheme}
use Rattle.model.specs.Database.{Database, Lawful, has}
use Rattle.model.specs.Cache.{RowSet}
use Rattle.model.specs.Probe.{cached_rows, rows_behind}
use Rattle.model.specs.Runs.{as_lists, query, marked, Cache}
use Rattle.model.specs.Effects.{cache_after}
use Rattle.model.specs.Query.{Query, operands_fit, extend, fitting, full_lists}
use Rattle.model.specs.Answers.{sent, lists, query_ground, full_answer, query_answer}
use Rattle.model.specs.Demand.{Demand2}
use Rattle.model.proofs.QueryLaws.{query-lists}
use Rattle.model.proofs.RunLaws.{Sound}

module _ (D : Database) (X : RowSet) (k : Column) (v : Cell) (g : ℕ) where
  -- a yes, ground 1's too, carries the cached rows that have the value
  pub rows-behind-yes : g ≢ 0 → cached_rows D X k v ≡ rows_behind g D X k v
  unfolding rows_behind
  rows-behind-yes n = sym (cond-false (eqb g 0) 0 (cached_rows D X k v) (ne_eqb g 0 n))

  -- a "sent" carries none, whichever rows are cached
  pub rows-behind-sent : g ≡ 0 → 0 ≡ rows_behind g D X k v
  unfolding rows_behind
  rows-behind-sent z = sym (cond-true (eqb g 0) 0 (cached_rows D X k v) (eq-eqb g 0 z))

-- ---- queries without joins

-- one list for each number that passes
length-ones : (n : ℕ) (p : ℕ → Bool) (f : ℕ → List ℕ) → length (collect n p (λ r. f r ∷ [])) ≡ count n p
unfolding collect count
length-ones zero p f = refl
length-ones (suc n) p f = length-append (collect n p (λ r. f r ∷ [])) _ ∙ ap₂ ◌+◌ (length-ones n p f) (one (p n) (f n))
  where
    one : (b : Bool) (x : List ℕ) → length (cond b (x ∷ []) []) ≡ cond b 1 0
    one true x = refl
    one false x = refl

-- without joins a fitting list is one row of X that has the value
pub fitting-alone : (S : Scheme) (D : Database) (X : RowSet) (k : Column) (v : Cell) → length (fitting S D X k v []) ≡ cached_rows D X k v
unfolding fitting extend cached_rows
fitting-alone S D X k v = length-ones D.size (λ r. X r && has D k v r) (λ r. r ∷ [])

module _ {S : Scheme} {D : Database} (l : Lawful S D) (c : Cache) (s : Sound S D c) (q : Query) (f : operands_fit S q ≡ true) (y : query_ground S D c q ≢ 0)
    (z : q.joins ≡ 0) where
  -- THEOREM: on a sound cache a query without joins that has a ground has exactly as many lists, from the full tables, as cached rows have the value
  pub lists-alone : length (full_lists S D q) ≡ cached_rows D (marked c.marks) q.column q.value
  lists-alone =
      ap length (sym (query-lists l c s q f y)) ∙
      ap (λ (n : ℕ). length (fitting S D (marked c.marks) q.column q.value (take n q.pairs))) z ∙
      fitting-alone S D (marked c.marks) q.column q.value

  -- and that is the number that its own probe carries
  pub lists-behind : length (full_lists S D q) ≡ rows_behind (query_ground S D c q) D (marked c.marks) q.column q.value
  lists-behind = lists-alone ∙ rows-behind-yes D (marked c.marks) q.column q.value (query_ground S D c q) y

-- THEOREM: a query without joins that is answered has exactly as many lists as cached rows have the value, after the reference: the number that a probe of
-- the value carries then
pub alone-lists : (S : Scheme) (D : Database) (c : Cache) (q : Query) (room : ℕ) → Demand2 S D c q (as_lists room) → q.joins ≡ 0 →
    query_answer S D c q (as_lists room) ≢ sent →
    query_answer S D c q (as_lists room) ≡ lists (cached_rows D (marked (cache_after S D c (query q (as_lists room))).marks) q.column q.value)
unfolding full_answer
alone-lists S D c q room d z n =
    let X = marked (cache_after S D c (query q (as_lists room))).marks in
    d.answer n ∙
    ap (λ (ls : List (List ℕ)). lists (length ls)) (d.cached n) ∙
    ap (λ (m : ℕ). lists (length (fitting S D X q.column q.value (take m q.pairs)))) z ∙
    ap lists (fitting-alone S D X q.column q.value)
