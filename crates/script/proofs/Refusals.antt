-- A refused operation leaves the cache as it was and writes neither words nor text, and a refused change of the rows leaves the state as it was. Assumes nothing.
use Prim.Native.Nat.{ℕ}
use native.Mathlib.Omega.{arith}
use mathlib.Core.Path.{◌≡◌, refl, sym, ap, ◌∙◌}
use mathlib.Core.Bool.{Bool, true, false, not, cond, and-eq-true_iff}
use mathlib.Core.List.{[]}
use mathlib.Core.Logic.{⊎_elim}
use borrow.Author.Tests.{ltb-true, lt-ltb, not-true}
use lib.Dec.{ltb}
use lib.Seq.{sets}
use Rattle.finite.proofs.Bools.{dec, same_number, cond-false}
use Rattle.model.specs.Scheme.{candidate}
use Rattle.model.specs.Ranges.{Range, is_range, only_candidates}
use Rattle.model.specs.Holding.{Pair, desks, holds, has_room, holds_range, covers_range, has_range_room}
use Rattle.model.specs.Query.{words_of, full_lists}
use Rattle.model.specs.Runs.{Question, probe, evenness, smallest_knot, opener, reason, Operation, refer, drop, ask, query, name, refer_range, drop_range, taken, range_taken, at_desk}
use Rattle.model.specs.Answers.{Answer, refused, named, unless, shown, has_lists, has_text, text_with, written_with, query_words}
use Rattle.model.specs.Effects.{effect, cache_after, reply, text_of, answer, written}
use Rattle.model.specs.Sentence.{reason_text}
use Rattle.model.proofs.HoldingLaws.{listed-fits, listed-candidate}
use Rattle.model.proofs.RangeLaws.{fits-range}
use Rattle.model.proofs.RangesFit.{held-range-fits}
use Rattle.model.proofs.Referring.{query-refused-keeps}
use Rattle.state.specs.Meaning.{scheme_of, holding_of}
use Rattle.state.proofs.Arrays.{HeldSized}
use Rattle.state.specs.Lent.{State, scheme, database, cache, sound, answer_at, state_after}
use Rattle.state.specs.Changes.{Change, rows, change_cause, changed_answer, change_answer_at, state_changed}
use Rattle.lawful.proofs.DesignLaws.{low-full}
use Rattle.lawful.proofs.HeldLaws.{holding-fits}
use Rattle.lawful.proofs.SoundState.{parts, unchanged, answer-at, words-at, text-at}
use Rattle.lawful.proofs.SoundChange.{state-refused, state-unsound, answer-changed}
use Rattle.model.proofs.Answering.{refer-loads, drop-drops}
use Rattle.model.proofs.RangeAnswers.{range-loads, drop-range-drops}
use Rattle.script.specs.Step.{Outputs, outputs, outputs_after}

module _ (s : State) (e : sound s ≡ true) (n : ℕ) where
  -- a REFER that is taken loads, and is not refused: a candidate is not blank
  refer-keeps : (p : Pair) → answer (scheme s) (database s) (cache s) (refer p) ≡ refused n →
      cache_after (scheme s) (database s) (cache s) (refer p) ≡ cache s
  unfolding effect taken scheme_of
  refer-keeps p h =
      let S = scheme s in
      let held = holding_of s.held in
      ⊎_elim (λ (t : taken S held p ≡ true).
      let a = (and-eq-true_iff (ltb p.filling S.fillings) _).0 t in
      let b = (and-eq-true_iff (candidate (S.filling p.filling) p.value) _).0 a.1 in
      let c = (and-eq-true_iff (not (holds held p)) (has_room held)).0 b.1 in
      let full = low-full s.design (parts s e).design p.filling (ltb-true _ _ a.0) p.value b.0 in
      let l = refer-loads S (database s) (cache s) p a.0 full b.0 (not-true _ c.0) c.1 in
      absurd (let z : ◌≡◌ {A = ℕ} 0 1 = cc in omega arith))
      (λ (t : taken S held p ≡ false). cond-false (taken S held p) _ (cache s) t)
      (dec (taken S held p))

  -- a DROP of a listed pair drops: it has a filling and a number
  drop_keeps : (p : Pair) → answer (scheme s) (database s) (cache s) (drop p) ≡ refused n →
      cache_after (scheme s) (database s) (cache s) (drop p) ≡ cache s
  unfolding effect scheme_of
  drop_keeps p h =
      let S = scheme s in
      let held = holding_of s.held in
      ⊎_elim (λ (t : holds held p ≡ true).
      let f = listed-fits S held (holding-fits s.design s.held (parts s e).held) p t in
      let k = listed-candidate S held (holding-fits s.design s.held (parts s e).held) p t in
      let l = drop-drops S (database s) (cache s) p (lt-ltb _ _ f) (low-full s.design (parts s e).design p.filling f p.value k) t in
      absurd (let z : ◌≡◌ {A = ℕ} 0 1 = cc in omega arith))
      (λ (t : holds held p ≡ false). cond-false (holds held p) _ (cache s) t)
      (dec (holds held p))

  -- a range that is taken loads, and a drop of a held one drops: it has a filling and is not empty
  refer-range-keeps : (r : Range) → answer (scheme s) (database s) (cache s) (refer_range r) ≡ refused n →
      cache_after (scheme s) (database s) (cache s) (refer_range r) ≡ cache s
  unfolding effect range_taken
  refer-range-keeps r h =
      let S = scheme s in
      let held = holding_of s.held in
      ⊎_elim (λ (t : range_taken S held r ≡ true).
      let a = (and-eq-true_iff (is_range S r) _).0 t in
      let b = (and-eq-true_iff (only_candidates S r) _).0 a.1 in
      let c = (and-eq-true_iff (not (covers_range held r)) (has_range_room held r)).0 b.1 in
      let l = range-loads S (database s) (cache s) r a.0 b.0 (not-true _ c.0) c.1 in
      absurd (let z : ◌≡◌ {A = ℕ} 0 1 = cc in omega arith))
      (λ (t : range_taken S held r ≡ false). cond-false (range_taken S held r) _ (cache s) t)
      (dec (range_taken S held r))

  drop-range-keeps : (r : Range) → answer (scheme s) (database s) (cache s) (drop_range r) ≡ refused n →
      cache_after (scheme s) (database s) (cache s) (drop_range r) ≡ cache s
  unfolding effect
  drop-range-keeps r h =
      let S = scheme s in
      let held = holding_of s.held in
      let w = holding-fits s.design s.held (parts s e).held in
      ⊎_elim (λ (t : holds_range held r ≡ true).
      let f = fits-range S r (held-range-fits S held w.named w.ranges r t) in
      let l = drop-range-drops S (database s) (cache s) r f t in
      absurd (let z : ◌≡◌ {A = ℕ} 0 1 = cc in omega arith))
      (λ (t : holds_range held r ≡ false). cond-false (holds_range held r) _ (cache s) t)
      (dec (holds_range held r))

  -- a desk that names nothing is refused, and the desk that was named stays
  name-keeps : (b : Bool) (d : ℕ) → unless (not b) 5 (named d) ≡ refused n → cond b (at_desk (cache s) d) (cache s) ≡ cache s
  name-keeps true d h = absurd (let z : ◌≡◌ {A = ℕ} 0 1 = cc in omega arith)
  name-keeps false d h = refl

  refused-keeps : (o : Operation) → answer (scheme s) (database s) (cache s) o ≡ refused n →
      cache_after (scheme s) (database s) (cache s) o ≡ cache s
  unfolding effect
  refused-keeps (refer p) h = refer-keeps p h
  refused-keeps (drop p) h = drop_keeps p h
  refused-keeps (ask q) h = refl
  refused-keeps (name d) h = name-keeps (ltb d desks) d h
  refused-keeps (refer_range r) h = refer-range-keeps r h
  refused-keeps (drop_range r) h = drop-range-keeps r h
  refused-keeps (query q out) h = query-refused-keeps (scheme s) (database s) (cache s) q out n h

  -- no words go with a refusal
  refused-wordless : (o : Operation) → answer (scheme s) (database s) (cache s) o ≡ refused n → written (scheme s) (database s) (cache s) o ≡ []
  unfolding effect query_words written_with has_lists shown
  refused-wordless (refer p) h = refl
  refused-wordless (drop p) h = refl
  refused-wordless (ask q) h = refl
  refused-wordless (name d) h = refl
  refused-wordless (refer_range r) h = refl
  refused-wordless (drop_range r) h = refl
  refused-wordless (query q out) h = ap (λ (a : Answer). written_with a (words_of (full_lists (scheme s) (database s) q))) h

  -- neither does text: a question for a reason alone writes any
  question-textless : (q : Question) → (reply (scheme s) (database s) (cache s) q).answer ≡ refused n → (reply (scheme s) (database s) (cache s) q).text ≡ []
  unfolding reply text_with has_text shown
  question-textless (probe k v) h = refl
  question-textless evenness h = refl
  question-textless smallest_knot h = refl
  question-textless (opener k v) h = refl
  question-textless (reason r room) h = ap (λ (a : Answer). text_with a (reason_text (scheme s) (database s) (cache s).held r)) h

  refused-textless : (o : Operation) → answer (scheme s) (database s) (cache s) o ≡ refused n → text_of (scheme s) (database s) (cache s) o ≡ []
  unfolding effect
  refused-textless (refer p) h = refl
  refused-textless (drop p) h = refl
  refused-textless (ask q) h = question-textless q h
  refused-textless (name d) h = refl
  refused-textless (refer_range r) h = refl
  refused-textless (drop_range r) h = refl
  refused-textless (query q out) h = refl

  -- what is held has its places, as its type says
  module _ (places : HeldSized s.held) (o : Operation) (h : answer_at s o ≡ refused n) where
    pub refused-state : state_after s o ≡ s
    refused-state = unchanged s e o places (refused-keeps o (sym (answer-at s e o) ∙ h))

    pub refused-outputs : (out : Outputs) → outputs_after s o out ≡ out
    refused-outputs out =
        let r = sym (answer-at s e o) ∙ h in
        λ x. outputs (sets out.words 0 ((words-at s e o ∙ refused-wordless o r) x)) (sets out.text 0 ((text-at s e o ∙ refused-textless o r) x))

-- ---- a change of the rows

-- one that is not refused answers how many rows came and went
pub refused-change : (s : State) (n : ℕ) (x : Change) → change_answer_at s x ≡ refused n → state_changed s x ≡ s
unfolding changed_answer
refused-change s n x h =
    ⊎_elim (λ (e : sound s ≡ true). ⊎_elim (λ (z : change_cause (scheme s) (rows s) x ≡ 0).
    absurd (let a = sym (answer-changed s x e z) ∙ h in let y : ◌≡◌ {A = ℕ} 0 1 = cc in omega arith))
    (λ (c : change_cause (scheme s) (rows s) x ≡ 0 → ⊥). state-refused s x c)
    (same_number (change_cause (scheme s) (rows s) x) 0))
    (λ (e : sound s ≡ false). state-unsound s x e)
    (dec (sound s))
