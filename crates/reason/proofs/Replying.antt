-- From the tests of the code to what a question for a reason answers in a sound state, and writes. Assumes nothing.
use Prim.Native.Nat.{ℕ, ◌≤◌, ◌<◌}
use native.Mathlib.Omega.{arith}
use mathlib.Core.Path.{◌≡◌, refl, sym, ap, subst, ◌∙◌}
use mathlib.Core.Bool.{true, false}
use mathlib.Core.List.{List, []}
use borrow.Author.Tests.{eq-eqb, ne_eqb, le-ltb}
use lib.ListN.{length, get_or, take}
use lib.Seq.{sets, get_or-take}
use Rattle.finite.specs.Writing.{Wrote}
use Rattle.finite.proofs.Bools.{and_left}
use Rattle.model.specs.Answers.{Answer, refused, absent, explained}
use Rattle.model.specs.Effects.{effect}
use Rattle.model.specs.Rounds.{reached}
use Rattle.model.specs.Runs.{Question, ask, reason, cached_for, marked, reload_levels}
use Rattle.model.specs.Sentence.{reason_text}
use Rattle.model.proofs.Marks.{marked-marks}
use Rattle.model.proofs.ReasonCases.{Replies, reason-unnamed, reason-absent, reason-long, reason-given}
use Rattle.model.proofs.ReasonLaws.{reload-levels}
use Rattle.model.proofs.RoundsLaws.{reached-level}
use Rattle.state.specs.Cells.{Cells}
use Rattle.state.specs.Meaning.{database_of, holding_of}
use Rattle.state.specs.Lent.{State, scheme, database, cache, sound, answer_at, text_at}
use Rattle.lawful.proofs.SoundState.{answer-at, text-at, sound-fresh}
use Rattle.reason.proofs.WordingLaws.{written-take}

-- what the code promises: the answer, and the text, w before and w' after
abbrev Replied : State → Question → List ℕ → Answer → List ℕ → Type 0
Replied s q w a w' = (a ≡ answer_at s (ask q)) × (w' ≡ sets w 0 (text_at s (ask q)))

replied : (s : State) → sound s ≡ true → (q : Question) (w : List ℕ) (a : Answer) (t w' : List ℕ) → Replies (scheme s) (database s) (cache s) q a t → w' ≡ sets w 0 t →
    Replied s q w a w'
unfolding effect
replied s e q w a t w' h f =
    (sym h.answer ∙ sym (answer-at s e (ask q)), f ∙ ap (sets w 0) (sym (text-at s e (ask q) ∙ h.text)))

-- a number past the rows names nothing
past-dead : (cells : Cells) (tables : List ℕ) (r : ℕ) → 512 ≤ r → (database_of cells tables).live r ≡ false
unfolding database_of
past-dead cells tables r h = and_left _ _ (le-ltb r 512 h)

module _ (s : State) (e : sound s ≡ true) (r : ℕ) where
  mark-at : r < 512 → get_or (take 512 s.marks) r 0 ≡ get_or s.marks r 0
  mark-at l = get_or-take 512 s.marks r 0 l

  is-marked : r < 512 → get_or s.marks r 0 ≡ 1 → marked (cache s).marks r ≡ true
  unfolding marked
  is-marked l h = eq-eqb _ _ (mark-at l ∙ h)

  -- a marked row is cached
  pub marked-cached : r < 512 → get_or s.marks r 0 ≡ 1 → cached_for (scheme s) (database s) (holding_of s.held) r ≡ true
  marked-cached l h =
      sym (marked-marks (database s) (reached (reload_levels (scheme s) (database s) (holding_of s.held)))
      (λ x t. (reload-levels (scheme s) (database s) (holding_of s.held)).rows x (reached-level _ x t)) r) ∙
      sym (ap (λ (m : List ℕ). marked m r) (sound-fresh s e).reloaded) ∙ is-marked l h

  module _ (w : List ℕ) where
    pub reply-past : 512 ≤ r → Replied s (reason r (length w)) w (refused 5) w
    reply-past h = replied s e _ w _ [] w (reason-unnamed (scheme s) (database s) (cache s) r (length w) (past-dead _ _ r h)) refl

    pub reply-unnamed : (database s).live r ≡ false → Replied s (reason r (length w)) w (refused 5) w
    reply-unnamed h = replied s e _ w _ [] w (reason-unnamed (scheme s) (database s) (cache s) r (length w) h) refl

    module _ (l : r < 512) (n : (database s).live r ≡ true) where
      pub reply-absent : (get_or s.marks r 0 ≡ 1 → ⊥) → Replied s (reason r (length w)) w absent w
      unfolding marked
      reply-absent h =
          replied s e _ w _ [] w (reason-absent (scheme s) (database s) (cache s) r (length w) n (ne_eqb _ _ (λ q. h (sym (mark-at l) ∙ q)))) refl

      -- the sentence, in memory of its own: o before, o' after, z bytes long
      module _ (h : get_or s.marks r 0 ≡ 1) (o o' : List ℕ) (z : ℕ) (u : Wrote o o' 0 z (reason_text (scheme s) (database s) (holding_of s.held) r)) where
        pub reply-long : length w < z → Replied s (reason r (length w)) w (refused 11) w
        reply-long k =
            replied s e _ w _ [] w (reason-long (scheme s) (database s) (cache s) r (length w) n (is-marked l h) (omega (arith, u.next))) refl

        pub reply-given : z ≤ length w → z ≤ length o → (w' : List ℕ) → w' ≡ sets w 0 (take z o') → Replied s (reason r (length w)) w (explained z) w'
        reply-given k m w' f =
            let len : z ≡ length (reason_text (scheme s) (database s) (holding_of s.held) r) = omega (arith, u.next) in
            replied s e _ w _ _ w'
            (subst (λ (x : ℕ). Replies (scheme s) (database s) (cache s) (reason r (length w)) (explained x) (reason_text (scheme s) (database s) (holding_of s.held) r)) (sym len)
            (reason-given (scheme s) (database s) (cache s) r (length w) n (is-marked l h) (omega arith)))
            (f ∙ ap (sets w 0) (written-take o o' z _ u (omega arith)))
