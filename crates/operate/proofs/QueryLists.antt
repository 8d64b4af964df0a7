-- What a query needs of a sound state: a column in range, and that cached rows and full tables have the same lists where there is a ground. Assumes
-- nothing.
use Prim.Native.Nat.{ℕ, ◌<◌}
use mathlib.Core.Path.{◌≡◌, refl, ◌∙◌, subst}
use mathlib.Core.Bool.{true, and-eq-true_iff}
use mathlib.Core.List.{List}
use lib.ListN.{take}
use Rattle.model.specs.Probe.{probe}
use Rattle.model.specs.Holding.{held_in}
use Rattle.model.specs.Runs.{Output, marked}
use Rattle.model.specs.Query.{operands_fit, full_lists}
use Rattle.model.specs.Answers.{Answer, query_ground}
use Rattle.model.proofs.QueryLaws.{query-lists}
use Rattle.state.specs.declared.operation.Query.{Query}
use Rattle.state.specs.Meaning.{cell_of, column_of, holding_of, query_of}
use Rattle.state.specs.Lent.{State, scheme, database, cache, long_enough, lawful, sound}
use Rattle.lawful.proofs.Asked.{sound-column}
use Rattle.lawful.proofs.LawfulState.{lawful-says}
use Rattle.lawful.proofs.RowsLaws.{Stored}
use Rattle.model.proofs.OperandLaws.{fits-column}
use Rattle.query.proofs.MarkedRows.{marked_lists, lists-front}
use Rattle.query.proofs.PlanLaws.{four-pairs}
use Rattle.operate.specs.Queries.{Drawn}

-- the probe of position 0, as it is found
abbrev pub ground_at : State → Query → ℕ
ground_at s q = probe (scheme s) (database s) (held_in (scheme s) (holding_of s.held)) (marked (take 512 s.marks)) (column_of q.column) (cell_of q.value)

pub ground-of : (s : State) (q : Query) → ground_at s q ≡ query_ground (scheme s) (database s) (cache s) (query_of q)
unfolding query_ground
ground-of s q = refl

module _ (s : State) (h : sound s ≡ true) (q : Query) (fit : operands_fit (scheme s) (query_of q) ≡ true) where
  -- the query's column is one of the eight that a row has
  pub sound-place : q.column.place < 8
  sound-place = sound-column s h q.column (fits-column (scheme s) (query_of q) fit (four-pairs q))

  -- where the probe has a ground, the lists of marked rows are those of the full tables
  pub lists-full : Stored s.cells → (query_ground (scheme s) (database s) (cache s) (query_of q) ≡ 0 → ⊥) →
      marked_lists s.design s.cells s.tables s.marks q ≡ full_lists (scheme s) (database s) (query_of q)
  lists-full u g =
      let l = lawful-says s u ((and-eq-true_iff (long_enough s) (lawful s)).0 h).1 in
      lists-front s.design s.cells s.tables s.marks q ∙ query-lists l.rows.database (cache s) l.smallest (query_of q) fit g

  pub sound-lists : Stored s.cells → (query_ground (scheme s) (database s) (cache s) (query_of q) ≡ 0 → ⊥) → (out : Output) (w w' : List ℕ) (a : Answer) →
      Drawn (database s) (marked_lists s.design s.cells s.tables s.marks q) out w w' a →
      Drawn (database s) (full_lists (scheme s) (database s) (query_of q)) out w w' a
  sound-lists u g out w w' a = subst (λ (ls : List (List ℕ)). Drawn (database s) ls out w w' a) (lists-full u g)
