-- A query that is referred first: what the code does with its copy of the marks is what the query does. Assumes nothing.
use Prim.Native.Nat.{ℕ}
use mathlib.Core.Path.{◌≡◌, sym, ap, subst, ◌∙◌}
use mathlib.Core.Bool.{true, false}
use mathlib.Core.List.{List, ◌++◌}
use lib.ListN.{length, take, drop as past}
use Rattle.model.specs.Holding.{Pair}
use Rattle.model.specs.Query.{full_lists}
use Rattle.model.specs.Runs.{Output, query, refer, taken, pair_for, referred}
use Rattle.model.specs.Answers.{Answer, is_refusal}
use Rattle.model.proofs.Marks.{length-marks}
use Rattle.model.proofs.Demand2.{fits-operands}
use Rattle.state.specs.declared.held.HeldValue.{HeldValue}
use Rattle.state.specs.declared.held.Held.{Held}
use Rattle.state.specs.declared.operation.Query.{Query}
use Rattle.state.specs.Meaning.{database_of, pair_of, query_of}
use Rattle.state.specs.Lent.{State, lent, scheme, database, cache, sound, Answered, Worded}
use Rattle.state.proofs.Arrays.{HeldSized}
use Rattle.lawful.proofs.RowsLaws.{Stored}
use Rattle.query.proofs.MarkedRows.{marked_lists}
use Rattle.operate.specs.Queries.{Drawn, Referring}
use Rattle.operate.proofs.ReferredCopy.{copied, copy-sound, copy-held, copy-marks, referred-lists}
use Rattle.operate.proofs.QueryCases.{query-past-limit, query-referred}

-- c is the copy of the first 512 marks
module _ (s : State) (e : sound s ≡ true) (c : List ℕ) (copy : c ≡ take 512 s.marks) where
  -- it can be worked on
  pub copied-sound : sound (lent s.design s.cells s.tables c s.held) ≡ true
  copied-sound = subst (λ (m : List ℕ). sound (lent s.design s.cells s.tables m s.held) ≡ true) (sym copy) (copy-sound s e)

  module _ (u : Stored s.cells) (q : Query) (v : HeldValue) (out : Output) (r : Referring s q out v) (b : Answer) (m : List ℕ) (h : Held)
      (refers : Answered (lent s.design s.cells s.tables c s.held) (refer (pair_of v)) b (lent s.design s.cells s.tables m h)) where
    abbrev pair : Pair
    pair = pair_for (scheme s) (query_of q)

    takes : taken (scheme s) (cache s).held pair ≡ true
    takes = ap (taken (scheme s) (cache s).held) (sym r.pair) ∙ r.taken

    on-copy : Answered (copied s e) (refer pair) b (lent s.design s.cells s.tables m h)
    on-copy =
        subst (λ (p : Pair). Answered (copied s e) (refer p) b (lent s.design s.cells s.tables m h)) r.pair
        (subst (λ (y : List ℕ). Answered (lent s.design s.cells s.tables y s.held) (refer (pair_of v)) b (lent s.design s.cells s.tables m h))
        copy refers)

    marks-are : m ≡ (referred (scheme s) (database s) (cache s) pair).marks
    marks-are = copy-marks s e pair takes b m h on-copy

    -- there is a mark for each row number
    pub marks-long : length m ≡ 512
    unfolding database_of
    marks-long = ap length marks-are ∙ length-marks (database s) _

    -- their lists are those of the full tables
    pub lists-full : marked_lists s.design s.cells s.tables m q ≡ full_lists (scheme s) (database s) (query_of q)
    lists-full =
        ap (λ (x : List ℕ). marked_lists s.design s.cells s.tables x q) marks-are ∙
        referred-lists s e u (query_of q) (fits-operands (scheme s) (query_of q) out r.fit) r.full takes

    module _ (w w' : List ℕ) (a : Answer) (lists : Drawn (database s) (marked_lists s.design s.cells s.tables m q) out w w' a) where
      all-lists : Drawn (database s) (full_lists (scheme s) (database s) (query_of q)) out w w' a
      all-lists = subst (λ (ls : List (List ℕ)). Drawn (database s) ls out w w' a) lists-full lists

      -- a held record has as many places as its type says
      pub left_alone : HeldSized s.held → is_refusal a ≡ true → Worded s w (query (query_of q) out) a s w'
      left_alone places f = query-past-limit s e places w (query_of q) out r.fit r.full r.groundless takes w' a all-lists f

      pub taken-over : HeldSized s.held → is_refusal a ≡ false → (n : List ℕ) → n ≡ m ++ past 512 s.marks →
          Worded s w (query (query_of q) out) a (lent s.design s.cells s.tables n h) w'
      taken-over places f n k =
          query-referred s e places w (query_of q) out r.fit r.full r.groundless takes w' a all-lists f n h
          (copy-held s e pair takes b m h on-copy) (k ∙ ap (λ (x : List ℕ). x ++ past 512 s.marks) marks-are)
