-- A lent state, and what an operation answers and leaves, for whatever is lent (01, "Causes of refusal": order 7, 12, then the operation's own).
-- Assumes nothing.
use Rattle.std.specs.Prelude.{ℕ, ◌≡◌, Bool, not, cond, ◌&&◌, List, [], ◌++◌, leb, length, drop}
use Rattle.std.proofs.lemmas.List.Edits.{sets}
use Rattle.model.specs.Scheme.{Scheme}
use Rattle.model.specs.Database.{Database}
use Rattle.model.specs.Runs.{Operation, Cache}
use Rattle.model.specs.Answers.{Answer, unless}
use Rattle.model.specs.Effects.{cache_after, answer, written, text_of}
use Rattle.state.specs.declared.design.Design.{Design}
use Rattle.state.specs.declared.held.Held.{Held}
use Rattle.state.specs.Cells.{Cells}
use Rattle.state.specs.HeldWords.{long_held, narrow_held}
use Rattle.state.specs.Meaning.{scheme_of, database_of, cache_of, held_of}
use Rattle.state.specs.Lawful.{lawful_design, lawful_rows, lawful_held, lawful_marks}

-- everything that a caller lends an operation
pub record State : Type 0 where
  pub design : Design
  pub cells : Cells
  pub tables : List ℕ
  pub marks : List ℕ
  pub held : Held

abbrev pub lent : Design → Cells → List ℕ → List ℕ → Held → State
lent d cells tables marks h = record { design = d; cells = cells; tables = tables; marks = marks; held = h }

abbrev pub scheme : State → Scheme
scheme s = scheme_of s.design

abbrev pub database : State → Database
database s = database_of s.cells s.tables

abbrev pub cache : State → Cache
cache s = cache_of s.held s.marks

-- cause 7 does not apply: "4,096 cells u32, 512 row tables u8, 512 marks u8", "4,096 issue bytes" (02, Req 06); what lies past these sizes is neither
-- read nor written
unfoldable pub long_enough : State → Bool
long_enough s = leb 4096 (length s.cells.numbers) && (leb 4096 (length s.cells.issues) && (leb 512 (length s.tables) && leb 512 (length s.marks)))

-- cause 12 does not apply
unfoldable pub lawful : State → Bool
lawful s =
    lawful_design s.design &&
    (lawful_rows s.design s.cells s.tables &&
    (lawful_held s.design s.held &&
    lawful_marks s.design s.cells s.tables s.held s.marks))

-- the state can be worked on: neither 7 nor 12
abbrev pub sound : State → Bool
sound s = long_enough s && lawful s

-- cause 7 or 12, whichever keeps the state from being worked on; 0 if neither applies
unfoldable pub cause_at : State → ℕ
cause_at s = cond (not (long_enough s)) 7 (cond (not (lawful s)) 12 0)

-- the same where what is held is lent as words: too few of them are a buffer too short, and words of no record are unlawful
unfoldable pub cause_of : State → List ℕ → ℕ
cause_of s words = cond (not (long_held words && long_enough s)) 7 (cond (not (narrow_held words && lawful s)) 12 0)

-- the answer that a sound state gets, behind causes 7 and 12
abbrev pub guarded : State → Answer → Answer
guarded s a = unless (not (long_enough s)) 7 (unless (not (lawful s)) 12 a)

-- ---- an operation

unfoldable pub answer_at : State → Operation → Answer
answer_at s o = guarded s (answer (scheme s) (database s) (cache s) o)

-- the held values afterwards
unfoldable pub held_after_at : State → Operation → Held
held_after_at s o = cond (sound s) (held_of (cache_after (scheme s) (database s) (cache s) o).held) s.held

-- the marks afterwards, with whatever lies past them
unfoldable pub marks_after_at : State → Operation → List ℕ
marks_after_at s o = cond (sound s) ((cache_after (scheme s) (database s) (cache s) o).marks ++ drop 512 s.marks) s.marks

-- the state afterwards: "An operation changes the held values and marks and no other part of the state"
abbrev pub state_after : State → Operation → State
state_after s o = lent s.design s.cells s.tables (marks_after_at s o) (held_after_at s o)

-- the answer words that it writes, from the first on
unfoldable pub words_at : State → Operation → List ℕ
words_at s o = cond (sound s) (written (scheme s) (database s) (cache s) o) []

-- the text that it writes, from the first byte on
unfoldable pub text_at : State → Operation → List ℕ
text_at s o = cond (sound s) (text_of (scheme s) (database s) (cache s) o) []

-- ---- what the code promises of an operation

-- the operation on the state s answers a and leaves the state s'
pub record Answered (s : State) (o : Operation) (a : Answer) (s' : State) : Type 0 where
  pub answer : a ≡ answer_at s o
  pub state : s' ≡ state_after s o

-- and, of the answer words w that it is lent, w': those that it writes from the first on, and all others as they were
pub record Worded (s : State) (w : List ℕ) (o : Operation) (a : Answer) (s' : State) (w' : List ℕ) : Type 0 where
  pub answered : Answered s o a s'
  pub words : w' ≡ sets w 0 (words_at s o)

-- and, of the text t that it is lent, t': the bytes that it writes from the first on, and all others as they were
pub record Performed (s : State) (w t : List ℕ) (o : Operation) (a : Answer) (s' : State) (w' t' : List ℕ) : Type 0 where
  pub answered : Answered s o a s'
  pub words : w' ≡ sets w 0 (words_at s o)
  pub text : t' ≡ sets t 0 (text_at s o)
