-- From the ground and the filling that the code finds to the cases of a query. Assumes nothing.
use Prim.Native.Nat.{ℕ, ◌≤◌}
use native.Mathlib.Omega.{arith}
use mathlib.Core.Path.{◌≡◌, sym, ap, ◌∙◌}
use mathlib.Core.Bool.{true, false}
use mathlib.Core.List.{List}
use Rattle.model.specs.Cell.{numberless}
use Rattle.model.specs.Holding.{Pair}
use Rattle.model.specs.Runs.{Output, query, taken, filling_for, pair_for, output_fits}
use Rattle.model.specs.Answers.{Answer, sent, query_ground}
use Rattle.model.proofs.Referring.{filling-few}
use Rattle.model.proofs.Demand2.{fits-operands}
use Rattle.state.specs.declared.operation.Query.{Query}
use Rattle.state.specs.Meaning.{cell_of, column_of, holding_of, query_of, scheme_of}
use Rattle.state.specs.Lent.{State, scheme, database, cache, sound, Worded}
use Rattle.state.proofs.Arrays.{HeldSized}
use Rattle.lawful.proofs.RowsLaws.{Stored}
use Rattle.lawful.proofs.Asked.{sound-fillings}
use Rattle.query.proofs.MarkedRows.{marked_lists}
use Rattle.operate.specs.Queries.{Drawn, Referring}
use Rattle.operate.proofs.QueryLists.{ground_at, ground-of, sound-lists}
use Rattle.operate.proofs.QueryCases.{query-ground, query-sent}

-- a filling's number, or the number of fillings, is a byte
pub filling-byte : (s : State) → sound s ≡ true → (q : Query) (f : ℕ) → f ≡ filling_for (scheme s) (column_of q.column) → f ≤ 8
unfolding scheme_of
filling-byte s e q f h = omega (arith, h, filling-few (scheme s) (column_of q.column), sound-fillings s e)

-- g is the ground that is found
module _ (s : State) (e : sound s ≡ true) (w : List ℕ) (q : Query) (out : Output) (fit : output_fits (scheme s) (query_of q) out ≡ true)
    (full : numberless (cell_of q.value) ≡ false) (g : ℕ) (found : g ≡ ground_at s q) where
  is-ground : g ≡ query_ground (scheme s) (database s) (cache s) (query_of q)
  is-ground = found ∙ ground-of s q

  pub step-drawn : HeldSized s.held → Stored s.cells → (g ≡ 0 → ⊥) → (w' : List ℕ) (a : Answer) →
      Drawn (database s) (marked_lists s.design s.cells s.tables s.marks q) out w w' a → Worded s w (query (query_of q) out) a s w'
  step-drawn places u n w' a l =
      query-ground s e places w (query_of q) out fit full (λ z. n (is-ground ∙ z)) w' a (sound-lists s e q (fits-operands (scheme s) (query_of q) out fit) u (λ z. n (is-ground ∙ z)) out w w' a l)

  -- f is the filling of the column
  module _ (z : g ≡ 0) (f : ℕ) (filling : f ≡ filling_for (scheme s) (column_of q.column)) where
    abbrev pair : Pair
    pair = record { filling = f; value = cell_of q.value }

    is-pair : pair ≡ pair_for (scheme s) (query_of q)
    is-pair = ap (λ (n : ℕ). record { filling = n; value = cell_of q.value }) filling

    pub step-sent : HeldSized s.held → taken (scheme s) (holding_of s.held) pair ≡ false → Worded s w (query (query_of q) out) sent s w
    step-sent places t =
        query-sent s e places w (query_of q) out fit full (sym is-ground ∙ z) (ap (taken (scheme s) (holding_of s.held)) (sym is-pair) ∙ t)

    pub step-refers : taken (scheme s) (holding_of s.held) pair ≡ true → Referring s q out (record { filling = f; value = q.value })
    step-refers t = record { fit = fit; full = full; groundless = sym is-ground ∙ z; pair = is-pair; taken = t }
