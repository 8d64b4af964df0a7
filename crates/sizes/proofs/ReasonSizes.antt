-- The bytes of a reason: at most 16,384, all of them written where they are lent, and cause 11 where fewer are. Its answer tells their number. Assumes
-- nothing.
use Prim.Native.Nat.{ℕ, ◌≤◌, ◌<◌}
use native.Mathlib.Omega.{arith}
use mathlib.Core.Path.{◌≡◌, refl, sym, ap, ◌∙◌}
use mathlib.Core.Logic.{⊎_elim}
use mathlib.Core.Bool.{Bool, true, false, not}
use mathlib.Core.List.{List}
use borrow.Author.Tests.{eqb-true}
use lib.Dec.{ltb}
use lib.ListN.{length}
use lib.Seq.{get_or-take}
use Rattle.finite.proofs.Bools.{dec}
use Rattle.model.specs.Runs.{ask, reason, marked, cached_for}
use Rattle.model.specs.Answers.{Answer, refused, absent, explained, unless, or_answer, shown, has_text, reason_answer, text_with}
use Rattle.model.specs.Effects.{effect, reply}
use Rattle.model.specs.Sentence.{reason_text}
use Rattle.model.proofs.ReasonCases.{Replies, reason-unnamed, reason-absent, reason-long, reason-given}
use Rattle.state.specs.declared.answer.Answer as State-answer
use Rattle.state.specs.declared.answer.Answer.TheVariants as A
use Rattle.state.specs.Meaning.{answer_of, scheme_of, holding_of}
use Rattle.state.specs.Lent.{State, scheme, database, cache, sound, answer_at, text_at}
use Rattle.lawful.proofs.DesignLaws.{design-says}
use Rattle.lawful.proofs.SoundState.{parts, answer-at, text-at}
use Rattle.query.proofs.Answering.{database-size}
use Rattle.reason.proofs.Composing.{reason-short}
use Rattle.reason.proofs.Replying.{marked-cached}
use Rattle.sizes.specs.Sizes.{ample, bytes_in}
use Rattle.sizes.proofs.Lending.{Lends, lends_none}

-- the answer with the text t, by the tests for cause 5, for a row that isn't cached, and for cause 11
abbrev replied : List ℕ → Bool → Bool → Bool → Answer
replied t x y z = unless x 5 (or_answer y absent (unless z 11 (explained (length t))))

-- it tells how many bytes are written
told : (t : List ℕ) (x y z : Bool) → bytes_in (replied t x y z) ≡ length (text_with (replied t x y z) t)
unfolding bytes_in text_with has_text shown
told t true y z = refl
told t false true z = refl
told t false false true = refl
told t false false false = refl

-- what the code reads of an answer: the length of a reason's text, and 0 with any other
pub tells_none : (a : State-answer.Answer) → ((n : ℕ) → a ≡ A.Explained n → ⊥) → 0 ≡ bytes_in (answer_of a)
unfolding bytes_in has_text shown
tells_none (A.Loaded rows rounds) h = refl
tells_none A.Held h = refl
tells_none A.NoCandidate h = refl
tells_none (A.Dropped rows) h = refl
tells_none (A.Ground g rows) h = refl
tells_none A.Sent h = refl
tells_none (A.Lists n) h = refl
tells_none (A.Refused n) h = refl
tells_none A.Even h = refl
tells_none (A.Uneven i j) h = refl
tells_none (A.Total n) h = refl
tells_none (A.Knot mask) h = refl
tells_none (A.Named d) h = refl
tells_none A.Open h = refl
tells_none (A.OpenedBy f n i) h = refl
tells_none A.NoOpener h = refl
tells_none A.Absent h = refl
tells_none (A.Explained n) h = absurd (h n refl)
tells_none (A.Changed came went) h = refl

pub tells-some : (a : State-answer.Answer) (n : ℕ) → a ≡ A.Explained n → n ≡ bytes_in (answer_of a)
unfolding bytes_in has_text shown
tells-some a n e = sym (ap (λ (x : State-answer.Answer). bytes_in (answer_of x)) e)

module _ (s : State) (e : sound s ≡ true) (r : ℕ) where
  abbrev answers : ℕ → Answer
  answers room = answer_at s (ask (reason r room))

  abbrev text_for : ℕ → List ℕ
  text_for room = text_at s (ask (reason r room))

  -- the whole sentence
  abbrev all_text : List ℕ
  all_text = reason_text (scheme s) (database s) (holding_of s.held) r

  given : (room : ℕ) (a : Answer) (t : List ℕ) → Replies (scheme s) (database s) (cache s) (reason r room) a t → (answers room ≡ a) × (text_for room ≡ t)
  unfolding effect
  given room a t h = (answer-at s e (ask (reason r room)) ∙ h.answer, text-at s e (ask (reason r room)) ∙ h.text)

  -- a row that is marked
  module _ (l : (database s).live r ≡ true) (m : marked (cache s).marks r ≡ true) where
    below : r < 512
    below = omega (arith, (database s).finite r l, database-size s.cells s.tables)

    cached : cached_for (scheme s) (database s) (holding_of s.held) r ≡ true
    unfolding marked
    cached = marked-cached s e r below (sym (get_or-take 512 s.marks r 0 below) ∙ eqb-true _ _ m)

    few : (scheme s).constraints ≤ 16
    unfolding scheme_of
    few = (design-says s.design (parts s e).design).constraints

    lends-text : Lends 16384 answers text_for
    lends-text =
        record {
          whole = all_text;
          most = reason-short (scheme s) (database s) (holding_of s.held) r cached (database-size s.cells s.tables) few;
          result = explained (length all_text);
          enough = λ room h. given room _ _ (reason-given (scheme s) (database s) (cache s) r room l m h);
          short = λ room h. (given room _ _ (reason-long (scheme s) (database s) (cache s) r room l m h)).0;
        }

  pub reason-lends : Lends 16384 answers text_for
  reason-lends =
      ⊎_elim
      (λ l. ⊎_elim (lends-text l)
      (λ m. lends_none _ answers text_for absent (λ room. given room _ _ (reason-absent (scheme s) (database s) (cache s) r room l m)))
      (dec (marked (cache s).marks r)))
      (λ l. lends_none _ answers text_for (refused 5) (λ room. given room _ _ (reason-unnamed (scheme s) (database s) (cache s) r room l)))
      (dec ((database s).live r))

  told_at : (room : ℕ) → bytes_in (answers room) ≡ length (text_for room)
  unfolding effect reply reason_answer
  told_at room =
      ap bytes_in (answer-at s e (ask (reason r room))) ∙
      told all_text (not ((database s).live r)) (not (marked (cache s).marks r)) (ltb room (length all_text)) ∙
      ap length (sym (text-at s e (ask (reason r room))))

  -- with room for any
  pub taken-text : (room : ℕ) → room ≡ 16384 → (a : Answer) → a ≡ answers room → (n : ℕ) → n ≡ bytes_in a → n ≡ length (text_for ample)
  taken-text room z a h n k =
      k ∙ ap bytes_in h ∙ told_at room ∙
      ap length ((reason-lends.enough room (omega (arith, reason-lends.most))).1 ∙ sym (reason-lends.enough ample (omega (arith, reason-lends.most))).1)
