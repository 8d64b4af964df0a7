-- What `words_taken` and `text_taken` say to a user: so much lent is enough, and with less the operation is refused with cause 11. Assumes nothing.
use Prim.Native.Nat.{ℕ, ◌≤◌, ◌<◌}
use native.Mathlib.Omega.{arith}
use mathlib.Core.Path.{◌≡◌, refl, sym, ap, ◌∙◌}
use mathlib.Core.Logic.{◌⊎◌, ⊎_elim}
use mathlib.Core.Bool.{Bool, true, false, not}
use mathlib.Core.List.{List, []}
use lib.ListN.{length}
use Rattle.model.specs.Cell.{numberless}
use Rattle.model.specs.Scheme.{Scheme}
use Rattle.model.specs.Database.{Database}
use Rattle.model.specs.Query as Model
use Rattle.model.specs.Runs as Runs
use Rattle.model.specs.Runs.{Cache, as_lists, as_total, output_fits, within_limit}
use Rattle.model.specs.Answers.{refused, sent, total, unless, or_answer, shown, has_lists, is_answered, full_answer, query_answer, query_words, written_with}
use Rattle.model.specs.Effects.{effect, reply, written, text_of}
use Rattle.state.specs.declared.operation.Query.{Query}
use Rattle.state.specs.declared.operation.Operation.{Operation}
use Rattle.state.specs.declared.operation.Operation.TheVariants as O
use Rattle.state.specs.Meaning.{operation_of, query_of}
use Rattle.state.specs.Lent.{State, scheme, database, cache, sound, answer_at, words_at, text_at}
use Rattle.lawful.proofs.SoundState.{words-at, text-at}
use Rattle.sizes.specs.Sizes.{ample, words_taken, text_taken}
use Rattle.sizes.proofs.Lending.{lends-enough, lends-needed}
use Rattle.sizes.proofs.QuerySizes.{query-lends}
use Rattle.sizes.proofs.ReasonSizes.{reason-lends}

-- ---- the kinds of operation

-- one that writes nothing, and does not hang on what is lent
record Plain (s : State) (op : Operation) : Type 0 where
  pub same : (room bytes : ℕ) → operation_of op room bytes ≡ operation_of op ample ample
  pub words : words_at s (operation_of op ample ample) ≡ []
  pub text : text_at s (operation_of op ample ample) ≡ []

data Kind (s : State) (op : Operation) : Type 0 where
  lists : (q : Query) → op ≡ O.Query q → Kind s op
  sentence : (r : ℕ) → op ≡ O.Reason r → Kind s op
  plain : Plain s op → Kind s op

-- a total has no lists, by the tests for causes 5 and 9, for one that is sent, and for cause 13
total-tested : (w x y z : Bool) (n : ℕ) (ws : List ℕ) → written_with (unless w 5 (unless x 9 (or_answer y sent (unless z 13 (total n))))) ws ≡ []
unfolding written_with has_lists shown
total-tested true x y z n ws = refl
total-tested false true y z n ws = refl
total-tested false false true z n ws = refl
total-tested false false false true n ws = refl
total-tested false false false false n ws = refl

total-words : (S : Scheme) (D : Database) (c : Cache) (q : Model.Query) (p k : ℕ) → query_words S D c q (as_total p k) ≡ []
unfolding query_words query_answer full_answer
total-words S D c q p k =
    total-tested (not (output_fits S q (as_total p k))) (numberless q.value) (not (is_answered S D c q)) (not (within_limit S D q (as_total p k))) _ _

module _ (s : State) (e : sound s ≡ true) where
  silent : (op : Operation) → ((room bytes : ℕ) → operation_of op room bytes ≡ operation_of op ample ample) →
      written (scheme s) (database s) (cache s) (operation_of op ample ample) ≡ [] → text_of (scheme s) (database s) (cache s) (operation_of op ample ample) ≡ [] → Kind s op
  silent op h w t = plain (record { same = h; words = words-at s e (operation_of op ample ample) ∙ w; text = text-at s e (operation_of op ample ample) ∙ t })

  kind : (op : Operation) → Kind s op
  unfolding effect reply
  kind (O.Query q) = lists q refl
  kind (O.Reason r) = sentence r refl
  kind (O.Total t) = silent (O.Total t) (λ room bytes. refl) (total-words (scheme s) (database s) (cache s) (query_of t.query) t.position t.column) refl
  kind (O.Refer v) = silent (O.Refer v) (λ room bytes. refl) refl refl
  kind (O.Drop v) = silent (O.Drop v) (λ room bytes. refl) refl refl
  kind (O.Probe k v) = silent (O.Probe k v) (λ room bytes. refl) refl refl
  kind O.Evenness = silent O.Evenness (λ room bytes. refl) refl refl
  kind O.SmallestKnot = silent O.SmallestKnot (λ room bytes. refl) refl refl
  kind (O.Name d) = silent (O.Name d) (λ room bytes. refl) refl refl
  kind (O.Opener k v) = silent (O.Opener k v) (λ room bytes. refl) refl refl
  kind (O.ReferRange r) = silent (O.ReferRange r) (λ room bytes. refl) refl refl
  kind (O.DropRange r) = silent (O.DropRange r) (λ room bytes. refl) refl refl

  -- a query writes no text, and a question no words
  query-text : (q : Query) (out : Runs.Output) → text_at s (Runs.query (query_of q) out) ≡ []
  unfolding effect
  query-text q out = text-at s e (Runs.query (query_of q) out)

  ask-words : (q : Runs.Question) → words_at s (Runs.ask q) ≡ []
  unfolding effect
  ask-words q = words-at s e (Runs.ask q)

  -- ---- what the code finds of each kind

  module _ (op : Operation) where
    abbrev Taken : ℕ → ℕ → Type 0
    Taken n m = (n ≡ words_taken s op) × (m ≡ text_taken s op)

    pub query-takes : (q : Query) → op ≡ O.Query q → (n : ℕ) → n ≡ length (words_at s (Runs.query (query_of q) (as_lists ample))) → Taken n 0
    unfolding words_taken text_taken
    query-takes q k n h = rw k (h, sym (ap length (query-text q (as_lists ample))))

    pub reason-takes : (r : ℕ) → op ≡ O.Reason r → (n : ℕ) → n ≡ length (text_at s (Runs.ask (Runs.reason r ample))) → Taken 0 n
    unfolding words_taken text_taken
    reason-takes r k n h = rw k (sym (ap length (ask-words (Runs.reason r ample))), h)

    -- of any other
    pub plain-takes : ((q : Query) → op ≡ O.Query q → ⊥) → ((r : ℕ) → op ≡ O.Reason r → ⊥) → Taken 0 0
    unfolding words_taken text_taken
    plain-takes x y = go (kind op)
      where
        go : Kind s op → Taken 0 0
        go (lists q k) = absurd (x q k)
        go (sentence r k) = absurd (y r k)
        go (plain p) = (sym (ap length p.words), sym (ap length p.text))

-- ---- enough

-- the answer, the words and the text are those of an operation to which more is lent than any can write
pub record Unhindered (s : State) (op : Operation) (room bytes : ℕ) : Type 0 where
  pub answer : answer_at s (operation_of op room bytes) ≡ answer_at s (operation_of op ample ample)
  pub words : words_at s (operation_of op room bytes) ≡ words_at s (operation_of op ample ample)
  pub text : text_at s (operation_of op room bytes) ≡ text_at s (operation_of op ample ample)

module _ (s : State) (e : sound s ≡ true) (op : Operation) (room bytes : ℕ) where
  -- THEOREM: where the words and the bytes that it takes are lent, or more, they are written, and nothing is refused for want of them
  pub sizes-enough : words_taken s op ≤ room → text_taken s op ≤ bytes → Unhindered s op room bytes
  unfolding words_taken text_taken
  sizes-enough w t = go (kind s e op)
    where
      go : Kind s op → Unhindered s op room bytes
      go (lists q k) =
          let h = lends-enough _ _ _ (query-lends s e q) ample (omega arith) room (rw k at w) in
          rw k (record { answer = h.0; words = h.1; text = query-text s e q _ ∙ sym (query-text s e q _) })
      go (sentence r k) =
          let h = lends-enough _ _ _ (reason-lends s e r) ample (omega arith) bytes (rw k at t) in
          rw k (record { answer = h.0; words = ask-words s e _ ∙ sym (ask-words s e _); text = h.1 })
      go (plain p) = let h = p.same room bytes in record { answer = ap (answer_at s) h; words = ap (words_at s) h; text = ap (text_at s) h }

  -- THEOREM: with fewer words, or fewer bytes, it is refused with cause 11
  pub sizes-needed : (room < words_taken s op) ⊎ (bytes < text_taken s op) → answer_at s (operation_of op room bytes) ≡ refused 11
  unfolding words_taken text_taken
  sizes-needed h = go (kind s e op)
    where
      go : Kind s op → answer_at s (operation_of op room bytes) ≡ refused 11
      go (lists q k) =
          ⊎_elim (λ w. rw k (lends-needed _ _ _ (query-lends s e q) ample (omega arith) room (rw k at w)))
          (λ t. absurd (omega (arith, rw k at t, ap length (query-text s e q (as_lists ample))))) h
      go (sentence r k) =
          ⊎_elim (λ w. absurd (omega (arith, rw k at w, ap length (ask-words s e (Runs.reason r ample)))))
          (λ t. rw k (lends-needed _ _ _ (reason-lends s e r) ample (omega arith) bytes (rw k at t))) h
      go (plain p) = absurd (⊎_elim (λ w. omega (arith, ap length p.words)) (λ t. omega (arith, ap length p.text)) h)
