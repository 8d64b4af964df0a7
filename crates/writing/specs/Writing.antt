-- Writing a lent design out (01, "Causes of refusal": order 7 for the rows, 12, 7 for the written design). Assumes nothing.
use Rattle.std.specs.Prelude.{ℕ, ◌≡◌, true, false, not, cond, List, [], leb, length}
use Rattle.std.proofs.lemmas.List.Edits.{sets}
use Rattle.state.specs.HeldWords.{record_in}
use Rattle.state.specs.Lent.{State, long_enough, lawful, cause_of}
use Rattle.format.specs.Writing.{design_bytes}
use Rattle.writing.specs.declared.outcome.Written.{Written}
use Rattle.writing.specs.declared.outcome.Written.TheVariants.{Bytes, Refused}

-- what the design and its rows are written as
abbrev pub bytes_of : State → List ℕ
bytes_of s = design_bytes s.design s.cells s.tables

-- the answer where a buffer of `room` bytes is lent
unfoldable pub written_at : State → ℕ → Written
written_at s room =
    cond (not (long_enough s)) (Refused 7)
    (cond (not (lawful s)) (Refused 12)
    (cond (not (leb (length (bytes_of s)) room)) (Refused 7)
    (Bytes (length (bytes_of s)))))

-- the bytes that are stored with an answer: none with a refusal
unfoldable pub stored_with : Written → List ℕ → List ℕ
stored_with (Bytes n) bytes = bytes
stored_with (Refused n) bytes = []

-- the answer w, and the buffer before and after: past what is stored it is untouched
pub record Writes (s : State) (w : Written) (before after : List ℕ) : Type 0 where
  pub answer : w ≡ written_at s (length before)
  pub buffer : after ≡ sets before 0 (stored_with (written_at s (length before)) (bytes_of s))

-- the same of a state s whose held values are lent as the words h: where they are the words of a record, as of the record; otherwise it is refused by cause 7 or
-- 12, and the buffer stays
pub record WritesWords (s : State) (h : List ℕ) (w : Written) (before after : List ℕ) : Type 0 where
  pub writes : record_in h ≡ true → Writes s w before after
  pub refused : record_in h ≡ false → (w ≡ Refused (cause_of s h)) × (after ≡ before)
