-- From what the functions of the operations give to what any operation gives: those that ask change nothing, REFER, DROP, the naming of a desk, and holding
-- and dropping a range write no words, and a reason alone writes text. (QUERY: QueryCases.) Assumes nothing.
use Prim.Native.Nat.{ℕ}
use mathlib.Core.Path.{◌≡◌, refl, sym, ap, subst, ◌∙◌}
use mathlib.Core.Bool.{true}
use mathlib.Core.List.{List, []}
use lib.Seq.{sets}
use Rattle.finite.proofs.Bools.{clash}
use Rattle.model.specs.Ranges.{Range}
use Rattle.model.specs.Holding.{Pair}
use Rattle.model.specs.Query.{Query}
use Rattle.model.specs.Runs.{Question, evenness, smallest_knot, Output, Operation, refer, drop, ask, query, name, refer_range, drop_range}
use Rattle.model.specs.Answers.{Answer, refused, even_answer, knot_answer}
use Rattle.model.specs.Effects.{effect, reply, written, text_of}
use Rattle.state.specs.declared.operation.Operation as State-operation
use Rattle.state.specs.Meaning.{operation_of}
use Rattle.state.specs.Cells.{Cells}
use Rattle.state.specs.declared.design.Design.{Design}
use Rattle.state.specs.declared.held.Held.{Held}
use Rattle.state.specs.HeldWords.{first_words, words_held, Whole}
use Rattle.state.specs.Lent.{State, lent, cache, scheme, database, sound, cause_at, cause_of, answer_at, words_at, text_at, Answered, Worded, Performed}
use Rattle.state.proofs.Arrays.{HeldSized}
use Rattle.state.proofs.LentWords.{same-record-words, stored-record}
use Rattle.guard.proofs.CauseWords.{cause-record, own-means, own-clear}
use Rattle.operate.specs.Lending.{PerformedWords}
use Rattle.lawful.proofs.SoundState.{after, answer-at, unchanged, words-at, text-at, cause-answer, cause-state, cause-words, cause-text}

-- ---- a state known sound

-- an operation that writes no text, of the text t
textless : (s : State) → sound s ≡ true → (t : List ℕ) (o : Operation) → text_of (scheme s) (database s) (cache s) o ≡ [] → t ≡ sets t 0 (text_at s o)
textless s e t o h = sym (ap (sets t 0) (text-at s e o ∙ h))

module _ (s : State) (e : sound s ≡ true) (w t : List ℕ) where
  -- an operation that writes no words
  wordless : (o : Operation) → written (scheme s) (database s) (cache s) o ≡ [] → w ≡ sets w 0 (words_at s o)
  wordless o h = sym (ap (sets w 0) (words-at s e o ∙ h))

  pub refer-performs : (p : Pair) (a : Answer) (s' : State) → Answered s (refer p) a s' → Performed s w t (refer p) a s' w t
  unfolding effect
  refer-performs p a s' h = record { answered = h; words = wordless (refer p) refl; text = textless s e t (refer p) refl }

  pub drop-performs : (p : Pair) (a : Answer) (s' : State) → Answered s (drop p) a s' → Performed s w t (drop p) a s' w t
  unfolding effect
  drop-performs p a s' h = record { answered = h; words = wordless (drop p) refl; text = textless s e t (drop p) refl }

  pub name-performs : (d : ℕ) (a : Answer) (s' : State) → Answered s (name d) a s' → Performed s w t (name d) a s' w t
  unfolding effect
  name-performs d a s' h = record { answered = h; words = wordless (name d) refl; text = textless s e t (name d) refl }

  pub range-performs : (r : Range) (a : Answer) (s' : State) → Answered s (refer_range r) a s' → Performed s w t (refer_range r) a s' w t
  unfolding effect
  range-performs r a s' h = record { answered = h; words = wordless (refer_range r) refl; text = textless s e t (refer_range r) refl }

  pub drop-range-performs : (r : Range) (a : Answer) (s' : State) → Answered s (drop_range r) a s' → Performed s w t (drop_range r) a s' w t
  unfolding effect
  drop-range-performs r a s' h = record { answered = h; words = wordless (drop_range r) refl; text = textless s e t (drop_range r) refl }

  pub query-performs : (q : Query) (out : Output) (a : Answer) (s' : State) (w' : List ℕ) → Worded s w (query q out) a s' w' →
      Performed s w t (query q out) a s' w' t
  unfolding effect
  query-performs q out a s' w' h = record { answered = h.answered; words = h.words; text = textless s e t (query q out) refl }

  -- a held record has as many places as its type says
  module _ (places : HeldSized s.held) where
    -- an operation that leaves the cache as it was, once its answer is given
    asked : (o : Operation) → after s o ≡ cache s → (a : Answer) → a ≡ answer_at s o → Answered s o a s
    asked o k a h = record { answer = h; state = sym (unchanged s e o places k) }

    -- a question, once its answer is given and its text written
    pub ask-writes : (q : Question) (a : Answer) (t' : List ℕ) → (a ≡ answer_at s (ask q)) × (t' ≡ sets t 0 (text_at s (ask q))) → Performed s w t (ask q) a s w t'
    unfolding effect
    ask-writes q a t' h = record { answered = asked (ask q) refl a h.0; words = wordless (ask q) refl; text = h.1 }

    -- a question that writes none
    pub ask-performs : (q : Question) → (reply (scheme s) (database s) (cache s) q).text ≡ [] → (a : Answer) → a ≡ answer_at s (ask q) → Performed s w t (ask q) a s w t
    unfolding effect
    ask-performs q n a h = ask-writes q a t (h, textless s e t (ask q) n)

-- whether a design is even depends on the design alone
pub even-answers : (s : State) → sound s ≡ true → (a : Answer) → a ≡ even_answer (scheme s) → a ≡ answer_at s (ask evenness)
unfolding effect reply
even-answers s e a h = h ∙ sym (answer-at s e (ask evenness))

-- and so does its smallest knot
pub knot-answers : (s : State) → sound s ≡ true → (a : Answer) → a ≡ knot_answer (scheme s) → a ≡ answer_at s (ask smallest_knot)
unfolding effect reply
knot-answers s e a h = h ∙ sym (answer-at s e (ask smallest_knot))

-- ---- whatever is lent

-- cause 7 or 12, and everything as it was
pub refused-performs : (s : State) (w t : List ℕ) (o : Operation) (c : ℕ) → c ≡ cause_at s → (c ≡ 0 → ⊥) → Performed s w t o (refused c) s w t
unfolding answer_at
refused-performs s w t o c e n =
    record {
      answered = record { answer = ap refused e ∙ cause-answer s m _; state = sym (cause-state s m o) };
      words = sym (ap (sets w 0) (cause-words s m o));
      text = sym (ap (sets t 0) (cause-text s m o));
    }
  where
    m : cause_at s ≡ 0 → ⊥
    m z = n (e ∙ z)

-- the operation that a command names
pub in-case : (s : State) (w t : List ℕ) (room bytes : ℕ) (c d : State-operation.Operation) (a : Answer) (s' : State) (w' t' : List ℕ) → c ≡ d →
    Performed s w t (operation_of d room bytes) a s' w' t' → Performed s w t (operation_of c room bytes) a s' w' t'
in-case s w t room bytes c d a s' w' t' e h = rw e h

-- the same where what is held is lent as words
module _ (d : Design) (cs : Cells) (ts ms ws w t : List ℕ) (o : Operation) (c : ℕ) (e : c ≡ cause_of (lent d cs ts ms (words_held ws)) ws) where
  abbrev s : State
  s = lent d cs ts ms (words_held ws)

  pub refused-words : (c ≡ 0 → ⊥) → PerformedWords s ws w t o (refused c) s ws w t
  refused-words n =
      record {
        performed = λ b. (refused-performs s w t o c (e ∙ cause-record s ws b) n, sym (same-record-words ws b));
        refused = λ b. (ap refused e, refl, refl, refl, refl);
      }

  -- none applies: the operation is performed on the record in the first words, whose words are stored
  pub performed-words : c ≡ 0 → (own : List ℕ) → own ≡ first_words ws → (a : Answer) (cs' : Cells) (ts' ms' own' ws' w' t' : List ℕ) →
      Performed (lent d cs ts ms (words_held own)) w t o a (lent d cs' ts' ms' (words_held own')) w' t' × Whole own' → ws' ≡ sets ws 0 own' →
      PerformedWords s ws w t o a (lent d cs' ts' ms' (words_held ws')) ws' w' t'
  performed-words z own is a cs' ts' ms' own' ws' w' t' p stored =
      let clear = own-clear d cs ts ms ws own is c e z in
      let back = stored-record ws own' ws' clear.long p.1 stored in
      record {
        performed = λ b. (
          subst (λ (h : Held). Performed s w t o a (lent d cs' ts' ms' h) w' t') (sym back.0)
              (subst (λ (h : Held). Performed (lent d cs ts ms h) w t o a (lent d cs' ts' ms' (words_held own')) w' t') (own-means d cs ts ms ws own is) p.0),
          back.1,
        );
        refused = λ b. clash clear.words b;
      }
