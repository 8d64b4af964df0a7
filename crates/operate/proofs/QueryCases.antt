-- The cases of a query on a sound state: causes 5 and 9, the answer where there is a ground, "sent", and the reference with cause 11 or 13 or the answer
-- (02, Req 02 and 03). Assumes nothing.
use Prim.Native.Nat.{ℕ}
use native.Mathlib.Omega.{arith}
use mathlib.Core.Path.{◌≡◌, refl, sym, ap, ◌∙◌}
use mathlib.Core.Bool.{Bool, true, false, not, ◌||◌}
use mathlib.Core.List.{List, [], ◌++◌}
use borrow.Author.Tests.{eq-eqb, ne_eqb, not-true, not-false}
use lib.ListN.{drop as past}
use lib.Seq.{sets}
use Rattle.finite.proofs.Bools.{both}
use Rattle.model.specs.Cell.{numberless}
use Rattle.model.specs.Scheme.{Scheme}
use Rattle.model.specs.Database.{Database}
use Rattle.model.specs.Query.{Query, words_of, full_lists, full_total, total_over}
use Rattle.model.specs.Runs.{Output, as_lists, as_total, Operation, query, taken, pair_for, output_fits, within_limit, answerable, Cache, referred}
use Rattle.model.specs.Answers.{Answer, refused, sent, unless, query_ground, is_answered, full_answer, limit_cause, query_answer, query_words, has_lists, is_refusal, shown, written_with}
use Rattle.model.specs.Effects.{effect, cache_after}
use Rattle.model.proofs.Referring.{refused-keeps, ground-keeps, untaken-keeps, refers-pair}
use Rattle.state.specs.declared.held.Held.{Held}
use Rattle.state.specs.Meaning.{held_of}
use Rattle.state.specs.Lent.{State, lent, scheme, database, cache, sound, answer_at, words_at, Worded}
use Rattle.state.proofs.Arrays.{HeldSized}
use Rattle.lawful.proofs.SoundState.{answer-at, held-after, marks-after, words-at, unchanged}
use Rattle.query.specs.Lists.{listed_answer}
use Rattle.operate.specs.Queries.{drawn, Drawn}

-- what the lists of the full tables give is the answer from the full tables, within its limit
drawn-full : (S : Scheme) (D : Database) (q : Query) (out : Output) →
    drawn D (full_lists S D q) out ≡ unless (not (within_limit S D q out)) (limit_cause out) (full_answer S D q out)
unfolding drawn listed_answer within_limit full_answer full_total full_lists total_over
drawn-full S D q (as_lists room) = refl
drawn-full S D q (as_total p c) = refl

full-unrefused : (S : Scheme) (D : Database) (q : Query) (out : Output) → is_refusal (full_answer S D q out) ≡ false
unfolding full_answer is_refusal shown
full-unrefused S D q (as_lists room) = ne_eqb 6 7 (λ z. omega arith)
full-unrefused S D q (as_total p c) = ne_eqb 10 7 (λ z. omega arith)

-- it is refused exactly if it passes the limit
drawn-refused : (S : Scheme) (D : Database) (q : Query) (out : Output) → is_refusal (drawn D (full_lists S D q) out) ≡ not (within_limit S D q out)
unfolding is_refusal shown
drawn-refused S D q out = ap is_refusal (drawn-full S D q out) ∙ go (within_limit S D q out)
  where
    go : (b : Bool) → is_refusal (unless (not b) (limit_cause out) (full_answer S D q out)) ≡ not b
    go true = full-unrefused S D q out
    go false = eq-eqb 7 7 refl

-- a held record has as many places as its type says
module _ (s : State) (e : sound s ≡ true) (places : HeldSized s.held) (w : List ℕ) (q : Query) (out : Output) where
  abbrev op : Operation
  op = query q out

  -- the words that lists would have
  abbrev list_words : List ℕ
  list_words = words_of (full_lists (scheme s) (database s) q)

  abbrev answers : Answer → Type 0
  answers a = a ≡ query_answer (scheme s) (database s) (cache s) q out

  -- the model's answer, with the words that go with it
  module _ (a : Answer) (h : answers a) (w' : List ℕ) (k : w' ≡ sets w 0 (written_with a list_words)) where
    answered : a ≡ answer_at s op
    unfolding effect
    answered = h ∙ sym (answer-at s e op)

    worded : w' ≡ sets w 0 (words_at s op)
    unfolding effect query_words
    worded = k ∙ ap (λ (x : Answer). sets w 0 (written_with x list_words)) h ∙ ap (sets w 0) (sym (words-at s e op))

    -- where the cache stays as it was
    stays : cache_after (scheme s) (database s) (cache s) op ≡ cache s → Worded s w op a s w'
    stays c = record { answered = record { answer = answered; state = sym (unchanged s e op places c) }; words = worded }

    -- where it becomes another one
    moves : (c : Cache) → cache_after (scheme s) (database s) (cache s) op ≡ c → (m : List ℕ) (g : Held) → g ≡ held_of c.held →
        m ≡ c.marks ++ past 512 s.marks → Worded s w op a (lent s.design s.cells s.tables m g) w'
    moves c k g₁ g₂ p r =
        record {
          answered = record {
            answer = answered;
            state = rw (
              p ∙ sym (held-after s e op ∙ ap (λ (d : Cache). held_of d.held) k),
              r ∙ sym (marks-after s e op ∙ ap (λ (d : Cache). d.marks ++ past 512 s.marks) k),
            ) refl;
          };
          words = worded;
        }

  -- an answer that changes and writes nothing
  silent : (a : Answer) → answers a → cache_after (scheme s) (database s) (cache s) op ≡ cache s → ((ws : List ℕ) → written_with a ws ≡ []) →
      Worded s w op a s w
  silent a h c n = stays a h w (ap (sets w 0) (sym (n list_words))) c

  -- ---- cause 5

  pub query-misfit : output_fits (scheme s) q out ≡ false → Worded s w op (refused 5) s w
  unfolding query_answer answerable written_with has_lists shown
  query-misfit f = silent (refused 5) (rw f) (refused-keeps (scheme s) (database s) (cache s) q out (rw f)) (λ ws. refl)

  module _ (f : output_fits (scheme s) q out ≡ true) where
    -- ---- cause 9

    pub query-numberless : numberless q.value ≡ true → Worded s w op (refused 9) s w
    unfolding query_answer answerable written_with has_lists shown
    query-numberless b = silent (refused 9) (rw (f, b)) (refused-keeps (scheme s) (database s) (cache s) q out (rw (f, b))) (λ ws. refl)

    module _ (b : numberless q.value ≡ false) where
      abbrev G : ℕ
      G = query_ground (scheme s) (database s) (cache s) q

      abbrev T : Bool
      T = taken (scheme s) (cache s).held (pair_for (scheme s) q)

      -- what the lists of the full tables give, of a query that is answered
      drawn-answer : is_answered (scheme s) (database s) (cache s) q ≡ true → (a : Answer) → a ≡ drawn (database s) (full_lists (scheme s) (database s) q) out →
          answers a
      unfolding query_answer
      drawn-answer y a h = h ∙ drawn-full (scheme s) (database s) q out ∙ rw (f, b, y)

      within : (a : Answer) → a ≡ drawn (database s) (full_lists (scheme s) (database s) q) out → is_refusal a ≡ not (within_limit (scheme s) (database s) q out)
      within a h = ap is_refusal h ∙ drawn-refused (scheme s) (database s) q out

      -- ---- a ground

      pub query-ground : (G ≡ 0 → ⊥) → (w' : List ℕ) (a : Answer) → Drawn (database s) (full_lists (scheme s) (database s) q) out w w' a → Worded s w op a s w'
      unfolding is_answered
      query-ground g w' a l =
          stays a (drawn-answer (ap (λ (x : Bool). not x || T) (ne_eqb G 0 g)) a l.answer) w'
          l.words
          (ground-keeps (scheme s) (database s) (cache s) q out g)

      module _ (g : G ≡ 0) where
        -- ---- none, and the pair is not taken

        pub query-sent : T ≡ false → Worded s w op sent s w
        unfolding query_answer is_answered written_with has_lists shown
        query-sent t = silent sent (rw (f, b, eq-eqb G 0 g, t)) (untaken-keeps (scheme s) (database s) (cache s) q out t) (λ ws. refl)

        -- ---- none, and it is referred

        module _ (t : T ≡ true) (w' : List ℕ) (a : Answer) (l : Drawn (database s) (full_lists (scheme s) (database s) q) out w w' a) where
          yes-answered : is_answered (scheme s) (database s) (cache s) q ≡ true
          unfolding is_answered
          yes-answered = rw (eq-eqb G 0 g, t)

          -- with 11 or 13 everything stays
          pub query-past-limit : is_refusal a ≡ true → Worded s w op a s w'
          unfolding answerable
          query-past-limit r =
              let k : within_limit (scheme s) (database s) q out ≡ false = not-true _ (sym (within a l.answer) ∙ r) in
              stays a (drawn-answer yes-answered a l.answer) w' l.words
              (refused-keeps (scheme s) (database s) (cache s) q out (rw (f, b, k)))

          pub query-referred : is_refusal a ≡ false → (m : List ℕ) (h : Held) →
              h ≡ held_of (referred (scheme s) (database s) (cache s) (pair_for (scheme s) q)).held →
              m ≡ (referred (scheme s) (database s) (cache s) (pair_for (scheme s) q)).marks ++ past 512 s.marks →
              Worded s w op a (lent s.design s.cells s.tables m h) w'
          unfolding answerable
          query-referred r m h p k =
              let n : within_limit (scheme s) (database s) q out ≡ true = not-false _ (sym (within a l.answer) ∙ r) in
              moves a (drawn-answer yes-answered a l.answer) w' l.words (referred (scheme s) (database s) (cache s) (pair_for (scheme s) q))
              (refers-pair (scheme s) (database s) (cache s) q out (both f (both (ap not b) n)) g t) m h p k
