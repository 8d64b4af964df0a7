-- The cases of writing a design out, in the order of causes: 7 for the rows, 12, 7 for the written design, and the bytes stored. Assumes nothing.
use Prim.Native.Nat.{ℕ, ◌≤◌, ◌<◌}
use mathlib.Core.Path.{◌≡◌, refl, sym, ap, ◌∙◌}
use mathlib.Core.Bool.{true, not, cond}
use mathlib.Core.List.{List}
use borrow.Author.Tests.{le-leb, lt-leb}
use lib.Dec.{leb}
use lib.ListN.{length}
use lib.Seq.{sets}
use Rattle.finite.proofs.Bools.{clash, cond-true, cond-false}
use Rattle.state.specs.HeldWords.{record_in}
use Rattle.state.specs.Lent.{State, sound, cause_at, cause_of}
use Rattle.guard.proofs.CauseWords.{cause-record}
use Rattle.writing.specs.declared.outcome.Written.{Written}
use Rattle.writing.specs.declared.outcome.Written.TheVariants.{Bytes, Refused}
use Rattle.writing.specs.Writing.{bytes_of, written_at, stored_with, Writes, WritesWords}
use Rattle.guard.proofs.CausesFirst.{caused, uncaused}

module _ (s : State) (before : List ℕ) where
  -- a refusal stores nothing
  refused-writes : (n : ℕ) → written_at s (length before) ≡ Refused n → Writes s (Refused n) before before
  unfolding stored_with
  refused-writes n e = record { answer = sym e; buffer = ap (λ (w : Written). sets before 0 (stored_with w (bytes_of s))) (sym e) }

  -- causes 7, for the rows, and 12
  pub caused-writes : (c : ℕ) → c ≡ cause_at s → (c ≡ 0 → ⊥) → Writes s (Refused c) before before
  unfolding written_at
  caused-writes c p n = refused-writes c (caused s Refused _ (λ z. n (p ∙ z)) ∙ ap Refused (sym p))

  -- on a sound state the room decides
  sound-written : sound s ≡ true →
      written_at s (length before) ≡ cond (not (leb (length (bytes_of s)) (length before))) (Refused 7) (Bytes (length (bytes_of s)))
  unfolding written_at
  sound-written e = uncaused s Refused _ e

  pub cramped-writes : sound s ≡ true → length before < length (bytes_of s) → Writes s (Refused 7) before before
  cramped-writes e l =
      refused-writes 7 (sound-written e ∙ cond-true (not (leb (length (bytes_of s)) (length before))) _ _ (ap not (lt-leb _ _ l)))

  pub stored-writes : sound s ≡ true → length (bytes_of s) ≤ length before → (n : ℕ) (after : List ℕ) →
      n ≡ length (bytes_of s) → after ≡ sets before 0 (bytes_of s) → Writes s (Bytes n) before after
  unfolding stored_with
  stored-writes e l n after p q =
      record { answer = ap Bytes p ∙ sym w; buffer = q ∙ ap (λ (x : Written). sets before 0 (stored_with x (bytes_of s))) (sym w) }
    where
      w : written_at s (length before) ≡ Bytes (length (bytes_of s))
      w = sound-written e ∙ cond-false (not (leb (length (bytes_of s)) (length before))) _ _ (ap not (le-leb _ _ l))

  -- where what is held is lent as words
  pub caused-words : (h : List ℕ) (c : ℕ) → c ≡ cause_of s h → (c ≡ 0 → ⊥) → WritesWords s h (Refused c) before before
  caused-words h c p n = record { writes = λ b. caused-writes c (p ∙ cause-record s h b) n; refused = λ b. (ap Refused p, refl) }

  pub writes-words : (h : List ℕ) → record_in h ≡ true → (w : Written) (after : List ℕ) → Writes s w before after → WritesWords s h w before after
  writes-words h e w after x = record { writes = λ b. x; refused = λ b. clash e b }
