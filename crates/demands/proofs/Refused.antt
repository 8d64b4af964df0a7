-- A refused call leaves everything as it was, entry point by entry point; each contract gives what is left by the terms that stand here. (A step
-- of a script: Theorems.) Assumes nothing.
use Prim.Native.Nat.{ℕ}
use mathlib.Core.Path.{◌≡◌, ap}
use mathlib.Core.List.{List}
use mathlib.Core.Logic.{⊎_elim}
use lib.Seq.{sets}
use Rattle.finite.proofs.Bools.{same_number}
use Rattle.model.specs.Runs.{Operation}
use Rattle.model.specs.Answers.{refused}
use Rattle.state.specs.Cells.{Cells}
use Rattle.state.proofs.Arrays.{HeldSized}
use Rattle.state.specs.Lent.{State, cause_at, answer_at, state_after}
use Rattle.state.specs.Changes.{Change, change_answer_at, state_changed}
use Rattle.lawful.proofs.SoundState.{cause-none, cause-state, cause-words, cause-text}
use Rattle.format.specs.Reading.{DesignRead, read_into, cells_after, tables_after, marks_after}
use Rattle.format.specs.Reading.DesignRead.{refused_at}
use Rattle.writing.specs.declared.outcome.Written.{Written}
use Rattle.writing.specs.declared.outcome.Written.TheVariants.{Refused}
use Rattle.script.specs.Step.{Outputs, outputs, outputs_after}
use Rattle.writing.specs.Writing.{bytes_of, written_at, stored_with}
use Rattle.script.proofs.Refusals.{refused-state, refused-outputs, refused-change}

-- THEOREM: `operate::perform`, whichever the operation is, with `out` lent for its answers. What is held has its places, as its type says.
pub operation-refused : (s : State) → HeldSized s.held → (n : ℕ) (o : Operation) → answer_at s o ≡ refused n → (out : Outputs) →
    (state_after s o ≡ s) × (outputs_after s o out ≡ out)
operation-refused s places n o h out =
    ⊎_elim (λ (z : cause_at s ≡ 0). let e = cause-none s z in (refused-state s e n places o h, refused-outputs s e n places o h out))
    (λ (m : cause_at s ≡ 0 → ⊥). (cause-state s m o, λ x. outputs (sets out.words 0 (cause-words s m o x)) (sets out.text 0 (cause-text s m o x))))
    (same_number (cause_at s) 0)

-- THEOREM: `change::put_row` and `change::remove_row`, whichever the change is
pub change-refused : (s : State) (n : ℕ) (x : Change) → change_answer_at s x ≡ refused n → state_changed s x ≡ s
change-refused = refused-change

-- THEOREM: `writing::write`, with o as its buffer
pub write-refused : (s : State) (n room : ℕ) (o : List ℕ) → written_at s room ≡ Refused n → sets o 0 (stored_with (written_at s room) (bytes_of s)) ≡ o
unfolding stored_with
write-refused s n room o h = ap (λ (w : Written). sets o 0 (stored_with w (bytes_of s))) h

-- what a reading leaves of the buffers
pub record Unread (w : DesignRead) (cs : Cells) (ts ms : List ℕ) : Type 0 where
  pub cells : cells_after w cs ≡ cs
  pub tables : tables_after w ts ≡ ts
  pub marks : marks_after w ms ≡ ms

-- THEOREM: `format::read_design` and `read_catalogued`, which leave the catalog's arrays as they were too (`Keeps`)
pub read-refused : (script : List ℕ) (cells : Cells) (tables marks : List ℕ) (n i : ℕ) → read_into script cells tables marks ≡ refused_at n i →
    Unread (read_into script cells tables marks) cells tables marks
read-refused script cells tables marks n i h =
    record {
      cells = ap (λ (w : DesignRead). cells_after w cells) h;
      tables = ap (λ (w : DesignRead). tables_after w tables) h;
      marks = ap (λ (w : DesignRead). marks_after w marks) h;
    }
