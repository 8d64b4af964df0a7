-- The words of a query's lists: one for each position of each, all of them written where they are lent, and cause 11 where fewer are. Assumes nothing.
use Prim.Native.Nat.{ℕ, suc, ◌+◌, ◌*◌, ◌^◌, ◌≤◌, ◌<◌}
use native.Mathlib.Nat.{mul-le-mul}
use native.Mathlib.Omega.{arith}
use mathlib.Core.Path.{◌≡◌, refl, sym, ap, ap₂, ◌∙◌}
use mathlib.Core.Logic.{⊎_elim}
use mathlib.Core.Bool.{Bool, true, false, not, ◌||◌}
use mathlib.Core.List.{List, []}
use borrow.Author.Tests.{eq-eqb, ne_eqb, le-leb, lt-leb}
use lib.ListN.{length}
use Rattle.finite.proofs.Bools.{dec}
use Rattle.model.specs.Cell.{numberless}
use Rattle.model.specs.Database.{Database}
use Rattle.model.specs.Cache.{RowSet}
use Rattle.model.specs.Query.{joins_of, operands_fit, fitting, full_lists, words_of}
use Rattle.model.specs.Runs.{as_lists, query, taken, pair_for, output_fits, within_limit}
use Rattle.model.specs.Answers.{Answer, refused, sent, lists, shown, has_lists, query_ground, is_answered, full_answer, query_answer, query_words, written_with}
use Rattle.model.specs.Effects.{effect}
use Rattle.model.proofs.ListLaws.{fitting-words}
use Rattle.state.specs.declared.design.Design.{Design}
use Rattle.state.specs.declared.operation.Query.{Query}
use Rattle.state.specs.Meaning.{cell_of, column_of, scheme_of, query_of}
use Rattle.state.specs.Lent.{State, scheme, database, cache, sound, answer_at, words_at}
use Rattle.lawful.proofs.SoundState.{answer-at, words-at}
use Rattle.query.proofs.PlanLaws.{few-joins, number-of-joins}
use Rattle.query.proofs.Answering.{database-size}
use Rattle.query.proofs.Counts.{lists-most}
use Rattle.sizes.specs.Sizes.{ample}
use Rattle.sizes.proofs.Lending.{Lends, lends_none}

-- ---- lists of any rows

module _ (d : Design) (q : Query) (fit : operands_fit (scheme_of d) (query_of q) ≡ true) (D : Database) (size : D.size ≡ 512) (X : RowSet) where
  abbrev the_lists : List (List ℕ)
  the_lists = fitting (scheme_of d) D X (column_of q.column) (cell_of q.value) (joins_of (query_of q))

  words_long : length (words_of the_lists) ≡ length the_lists * suc q.joins
  words_long =
      fitting-words (scheme_of d) D X (column_of q.column) (cell_of q.value) (joins_of (query_of q)) ∙
      ap (λ (m : ℕ). length the_lists * suc m) (number-of-joins d q fit)

  -- n lists of a word for each position
  pub words-of : (n : ℕ) → n ≡ length the_lists → n * (q.joins + 1) ≡ length (words_of the_lists)
  words-of n e = let p : q.joins + 1 ≡ suc q.joins = omega arith in ap₂ ◌*◌ e p ∙ sym words_long

  -- at most 512 rows at each of five positions
  words-most : length (words_of the_lists) ≤ 512 ^ 5 * 5
  words-most =
      rw words_long
      (mul-le-mul {n₁ = length the_lists} {m₁ = suc q.joins} {n₂ = 512 ^ 5} {m₂ = 5} (lists-most d q fit D size X) (omega (arith, few-joins d q fit)))

  pub words-fit : (n : ℕ) → n ≡ length the_lists → n * (q.joins + 1) ≤ 512 ^ 5 * 5
  words-fit n e = rw (words-of n e) words-most

-- ---- a query on a sound state, by the words that are lent

module _ (s : State) (e : sound s ≡ true) (q : Query) where
  abbrev answers : ℕ → Answer
  answers room = answer_at s (query (query_of q) (as_lists room))

  abbrev pub words_for : ℕ → List ℕ
  words_for room = words_at s (query (query_of q) (as_lists room))

  -- the words of all lists
  abbrev pub all_words : List ℕ
  all_words = words_of (full_lists (scheme s) (database s) (query_of q))

  -- the model's answer a, with the words that go with it
  given : (room : ℕ) (a : Answer) (ws : List ℕ) → query_answer (scheme s) (database s) (cache s) (query_of q) (as_lists room) ≡ a → written_with a all_words ≡ ws →
      (answers room ≡ a) × (words_for room ≡ ws)
  unfolding effect query_words
  given room a ws h k = (
    answer-at s e (query (query_of q) (as_lists room)) ∙ h,
    words-at s e (query (query_of q) (as_lists room)) ∙ ap (λ (x : Answer). written_with x all_words) h ∙ k,
  )

  pub given-misfit : operands_fit (scheme s) (query_of q) ≡ false → (room : ℕ) → (answers room ≡ refused 5) × (words_for room ≡ [])
  unfolding query_answer output_fits written_with has_lists shown
  given-misfit f room = given room (refused 5) [] (rw f refl) refl

  module _ (f : operands_fit (scheme s) (query_of q) ≡ true) where
    pub given-numberless : numberless (cell_of q.value) ≡ true → (room : ℕ) → (answers room ≡ refused 9) × (words_for room ≡ [])
    unfolding query_answer output_fits written_with has_lists shown
    given-numberless b room = given room (refused 9) [] (rw (f, b) refl) refl

    module _ (b : numberless (cell_of q.value) ≡ false) where
      abbrev is_given : Bool
      is_given = is_answered (scheme s) (database s) (cache s) (query_of q)

      pub given-sent : is_given ≡ false → (room : ℕ) → (answers room ≡ sent) × (words_for room ≡ [])
      unfolding query_answer output_fits written_with has_lists shown
      given-sent a room = given room sent [] (rw (f, b, a) refl) refl

      pub all_most : length all_words ≤ 512 ^ 5 * 5
      unfolding full_lists
      all_most = words-most s.design q f (database s) (database-size s.cells s.tables) (database s).live

      module _ (a : is_given ≡ true) where
        pub given-lists : (room : ℕ) → length all_words ≤ room →
            (answers room ≡ lists (length (full_lists (scheme s) (database s) (query_of q)))) × (words_for room ≡ all_words)
        unfolding query_answer output_fits within_limit full_answer written_with has_lists shown
        given-lists room l = given room _ all_words (rw (f, b, a, le-leb (length all_words) room l) refl) refl

        given-short : (room : ℕ) → room < length all_words → answers room ≡ refused 11
        unfolding query_answer output_fits within_limit written_with has_lists shown
        given-short room l = (given room (refused 11) [] (rw (f, b, a, lt-leb (length all_words) room l) refl) refl).0

        lends-lists : Lends (512 ^ 5 * 5) answers words_for
        lends-lists = record { whole = all_words; most = all_most; result = _; enough = given-lists; short = given-short }

        -- the words that are taken
        pub taken-lists : (n : ℕ) → n ≡ length all_words → n ≡ length (words_for ample)
        taken-lists n h = h ∙ sym (ap length (given-lists ample (omega (arith, all_most))).1)

  -- whatever is asked: at most so many words, and cause 11 where fewer are lent
  pub query-lends : Lends (512 ^ 5 * 5) answers words_for
  query-lends =
      ⊎_elim
      (λ f. ⊎_elim
      (λ b. lends_none _ answers words_for (refused 9) (given-numberless f b))
      (λ b. ⊎_elim (lends-lists f b) (λ a. lends_none _ answers words_for sent (given-sent f b a)) (dec (is_given f b)))
      (dec (numberless (cell_of q.value))))
      (λ f. lends_none _ answers words_for (refused 5) (given-misfit f))
      (dec (operands_fit (scheme s) (query_of q)))

  -- ---- which queries are answered

  abbrev G : ℕ
  G = query_ground (scheme s) (database s) (cache s) (query_of q)

  abbrev T : Bool
  T = taken (scheme s) (cache s).held (pair_for (scheme s) (query_of q))

  pub answered-ground : (G ≡ 0 → ⊥) → is_answered (scheme s) (database s) (cache s) (query_of q) ≡ true
  unfolding is_answered
  answered-ground g = ap (λ (x : Bool). not x || T) (ne_eqb G 0 g)

  pub answered-as : G ≡ 0 → (t : Bool) → T ≡ t → is_answered (scheme s) (database s) (cache s) (query_of q) ≡ t
  unfolding is_answered
  answered-as g t h = rw (eq-eqb G 0 g) h
