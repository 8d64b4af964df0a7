-- From the ground and the filling that the code finds to the words that a query takes. Assumes nothing.
use Prim.Native.Nat.{ℕ}
use mathlib.Core.Path.{◌≡◌, sym, ap, ◌∙◌}
use mathlib.Core.Bool.{Bool, true, false}
use mathlib.Core.List.{List, []}
use lib.ListN.{length}
use Rattle.model.specs.Cell.{numberless}
use Rattle.model.specs.Holding.{Pair}
use Rattle.model.specs.Query.{operands_fit, words_of}
use Rattle.model.specs.Runs.{as_lists, taken, filling_for, output_fits}
use Rattle.model.specs.Answers.{query_ground, is_answered}
use Rattle.state.specs.declared.operation.Query.{Query}
use Rattle.state.specs.Meaning.{cell_of, column_of, holding_of, query_of}
use Rattle.state.specs.Lent.{State, scheme, database, cache, sound}
use Rattle.lawful.proofs.RowsLaws.{Stored}
use Rattle.query.proofs.MarkedRows.{marked_lists}
use Rattle.operate.specs.Queries.{Referring}
use Rattle.sizes.specs.Sizes.{ample}
use Rattle.operate.proofs.QueryLists.{ground_at, ground-of, lists-full}
use Rattle.operate.proofs.QuerySteps.{step-refers}
use Rattle.sizes.proofs.QuerySizes.{words_for, all_words, given-sent, taken-lists, answered-ground, answered-as}

-- g is the ground that is found
module _ (s : State) (e : sound s ≡ true) (q : Query) (fit : operands_fit (scheme s) (query_of q) ≡ true) (full : numberless (cell_of q.value) ≡ false) (g : ℕ)
    (found : g ≡ ground_at s q) where
  is-ground : g ≡ query_ground (scheme s) (database s) (cache s) (query_of q)
  is-ground = found ∙ ground-of s q

  -- the words of the marked rows' lists
  pub listed-taken : Stored s.cells → (g ≡ 0 → ⊥) → (n : ℕ) → n ≡ length (words_of (marked_lists s.design s.cells s.tables s.marks q)) →
      n ≡ length (words_for s e q ample)
  listed-taken u z n h =
      let o : query_ground (scheme s) (database s) (cache s) (query_of q) ≡ 0 → ⊥ = λ y. z (is-ground ∙ y) in
      taken-lists s e q fit full (answered-ground s e q o) n (h ∙ ap (λ (ls : List (List ℕ)). length (words_of ls)) (lists-full s e q fit u o))

  -- f is the filling of the column
  module _ (z : g ≡ 0) (f : ℕ) (filling : f ≡ filling_for (scheme s) (column_of q.column)) where
    abbrev pair : Pair
    pair = record { filling = f; value = cell_of q.value }

    -- the query is answered if its pair is taken
    as-taken : (t : Bool) → taken (scheme s) (holding_of s.held) pair ≡ t → is_answered (scheme s) (database s) (cache s) (query_of q) ≡ t
    as-taken t h =
        answered-as s e q (sym is-ground ∙ z) t
        (ap (λ (n : ℕ). taken (scheme s) (holding_of s.held) (record { filling = n; value = cell_of q.value })) (sym filling) ∙ h)

    pub sent-taken : taken (scheme s) (holding_of s.held) pair ≡ false → 0 ≡ length (words_for s e q ample)
    sent-taken t = sym (ap length (given-sent s e q fit full (as-taken false t) ample).1)

    pub refers-pair : taken (scheme s) (holding_of s.held) pair ≡ true → Referring s q (as_lists ample) (record { filling = f; value = q.value })
    unfolding output_fits
    refers-pair t = step-refers s e [] q (as_lists ample) fit full g found z f filling t

    pub referred-taken : taken (scheme s) (holding_of s.held) pair ≡ true → (n : ℕ) → n ≡ length (all_words s e q) → n ≡ length (words_for s e q ample)
    referred-taken t n h = taken-lists s e q fit full (as-taken true t) n h
