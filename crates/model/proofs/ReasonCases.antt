-- What a question for a reason answers and writes, case by case: text is written with a reason alone, so that `absent` and a refusal write none (02, Req 08).
-- Assumes nothing.
use Prim.Native.Nat.{ℕ, ◌≤◌, ◌<◌}
use mathlib.Core.Path.{◌≡◌, refl, ap, ◌∙◌}
use mathlib.Core.Bool.{true, false}
use mathlib.Core.List.{List, []}
use borrow.Author.Tests.{lt-ltb, le-ltb}
use lib.ListN.{length}
use Rattle.model.specs.Scheme.{Scheme}
use Rattle.model.specs.Database.{Database}
use Rattle.model.specs.Sentence.{reason_text}
use Rattle.model.specs.Runs.{Question, reason, marked, Cache}
use Rattle.model.specs.Answers.{Answer, refused, absent, explained, shown, has_text, reason_answer, text_with}
use Rattle.model.specs.Effects.{reply}

-- the question is answered with a, and writes t
pub record Replies (S : Scheme) (D : Database) (c : Cache) (q : Question) (a : Answer) (t : List ℕ) : Type 0 where
  pub answer : (reply S D c q).answer ≡ a
  pub text : (reply S D c q).text ≡ t

module _ (S : Scheme) (D : Database) (c : Cache) (r room : ℕ) where
  -- from the answer to the text
  replies : (a : Answer) (t : List ℕ) → reason_answer S D c r room ≡ a → text_with a (reason_text S D c.held r) ≡ t → Replies S D c (reason r room) a t
  unfolding reply
  replies a t e f = record { answer = e; text = ap (λ (x : Answer). text_with x (reason_text S D c.held r)) e ∙ f }

  -- "a row number that names nothing"
  pub reason-unnamed : D.live r ≡ false → Replies S D c (reason r room) (refused 5) []
  unfolding reason_answer text_with has_text shown
  reason-unnamed e = replies (refused 5) [] (rw e) refl

  module _ (e : D.live r ≡ true) where
    -- "A row that isn't cached prints absent and writes no text"
    pub reason-absent : marked c.marks r ≡ false → Replies S D c (reason r room) absent []
    unfolding reason_answer text_with has_text shown
    reason-absent f = replies absent [] (rw (e, f)) refl

    module _ (f : marked c.marks r ≡ true) where
      -- "a sentence longer than the lent text"
      pub reason-long : room < length (reason_text S D c.held r) → Replies S D c (reason r room) (refused 11) []
      unfolding reason_answer text_with has_text shown
      reason-long g =
          replies (refused 11) [] (rw (e, f, lt-ltb _ _ g)) refl

      -- the sentence fits
      pub reason-given : length (reason_text S D c.held r) ≤ room →
          Replies S D c (reason r room) (explained (length (reason_text S D c.held r))) (reason_text S D c.held r)
      unfolding reason_answer text_with has_text shown
      reason-given g =
          replies _ _ (rw (e, f, le-ltb _ _ g)) refl
