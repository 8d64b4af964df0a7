-- One step of a script: the command at a place, read and carried out on whatever is lent (01, "The script is read from the place reached so far,
-- one command at a time", and the order of causes: 7, 12, script length, then 2, 1, 3, then the operation's own). Assumes nothing.
use Rattle.std.specs.Prelude.{ℕ, ◌+◌, min, ◌≡◌, Bool, true, false, not, cond, List, ltb, length}
use Rattle.std.proofs.lemmas.List.Edits.{sets}
use Rattle.model.specs.Runs as Runs
use Rattle.model.specs.Answers.{Answer, refused, is_refusal}
use Rattle.state.specs.declared.operation.Operation.{Operation}
use Rattle.state.specs.Meaning.{answer_of, operation_of}
use Rattle.state.specs.HeldWords.{record_in, held_words}
use Rattle.state.specs.Lent.{State, long_enough, lawful, cause_of, answer_at, state_after, words_at, text_at}
use Rattle.state.specs.Changes.{Change, put, remove, change_answer_at, state_changed}
use Rattle.command.specs.declared.command.Command.{Command}
use Rattle.command.specs.declared.command.Command.TheVariants.{Table, Constraint, Filling, Row, End, Operate, Put, Remove, Unknown, Short}
use Rattle.command.specs.Bytes.{byte_at}
use Rattle.command.specs.Commands.{command_at, width_of, put_row_at}
use Rattle.format.specs.Reading.{most_bytes}
use Rattle.script.specs.declared.outcome.Step.{Step}

-- what is lent for answers to be written into: the answer words, and the bytes of text (02, Req 08)
pub record Outputs : Type 0 where
  pub words : List ℕ
  pub text : List ℕ

abbrev pub outputs : List ℕ → List ℕ → Outputs
outputs words text = record { words = words; text = text }

-- how many words and how many bytes of text are lent
pub record Rooms : Type 0 where
  pub words : ℕ
  pub bytes : ℕ

abbrev pub rooms_of : Outputs → Rooms
rooms_of out = record { words = length out.words; bytes = length out.text }

-- the operation, where so much is lent
abbrev pub operation_in : Operation → Rooms → Runs.Operation
operation_in op rooms = operation_of op rooms.words rooms.bytes

-- what is lent, behind an operation: the words and the text that it writes, each from the first on, and all others as they were
abbrev pub outputs_after : State → Runs.Operation → Outputs → Outputs
outputs_after s o out = outputs (sets out.words 0 (words_at s o)) (sets out.text 0 (text_at s o))

-- What a step gives: the answer, the place of a refusal (0 with any other answer), the place after the command, whether reading goes on, and the
-- state and what is lent for answers, as they are afterwards.
pub record Stepped : Type 0 where
  pub answer : Answer
  pub place : ℕ
  pub next : ℕ
  pub more : Bool
  pub state : State
  pub outputs : Outputs

-- "Place is the byte at which the faulty command begins"
abbrev pub place_of : Answer → ℕ → ℕ
place_of a i = cond (is_refusal a) i 0

module _ (s : State) (out : Outputs) where
  -- a refusal that changes nothing
  abbrev pub refusing : ℕ → ℕ → ℕ → Bool → Stepped
  refusing n place next more = record { answer = refused n; place = place; next = next; more = more; state = s; outputs = out }

  -- an operation, at place i and followed by place j
  unfoldable pub operated : Operation → ℕ → ℕ → Stepped
  operated op i j =
      let o = operation_in op (rooms_of out) in
      record {
        answer = answer_at s o;
        place = place_of (answer_at s o) i;
        next = j;
        more = true;
        state = state_after s o;
        outputs = outputs_after s o out;
      }

  -- a change of the rows, at place i and followed by place j: it writes neither words nor text
  unfoldable pub changing : Change → ℕ → ℕ → Stepped
  changing x i j =
      record {
        answer = change_answer_at s x;
        place = place_of (change_answer_at s x) i;
        next = j;
        more = true;
        state = state_changed s x;
        outputs = out;
      }

  -- the command c at place i of the script, followed by place j
  unfoldable pub carried : List ℕ → ℕ → ℕ → Command → Stepped
  carried script i j (Operate op) = operated op i j
  carried script i j (Put r t) = changing (put r (put_row_at script i)) i j
  carried script i j (Remove r) = changing (remove r) i j
  -- "a design command or a second END after END"
  carried script i j (Table t) = refusing 3 i j true
  carried script i j (Constraint c) = refusing 3 i j true
  carried script i j (Filling f) = refusing 3 i j true
  carried script i j (Row t) = refusing 3 i j true
  carried script i j End = refusing 3 i j true
  -- "After 1 or 2 the program stops": nothing tells where the next command begins
  carried script i j Unknown = refusing 2 i i false
  carried script i j Short = refusing 1 (min i (length script)) i false

  -- the step at place i: causes 7, 12 and an over-long script first, each at place 0 and with nothing read
  unfoldable pub step_at : List ℕ → ℕ → Stepped
  step_at script i =
      cond (not (long_enough s)) (refusing 7 0 i false)
      (cond (not (lawful s)) (refusing 12 0 i false)
      (cond (ltb most_bytes (length script)) (refusing 4 0 i false)
      (carried script i (i + width_of (byte_at script i)) (command_at script i))))

-- what the code gives for a step, t, and the state s', the words and the text that it leaves are those of R
pub record Does (R : Stepped) (t : Step) (s' : State) (out : Outputs) : Type 0 where
  pub answer : answer_of t.answer ≡ R.answer
  pub place : t.place ≡ R.place
  pub next : t.next ≡ R.next
  pub more : t.more ≡ R.more
  pub state : s' ≡ R.state
  pub outputs : out ≡ R.outputs

-- the step at place i of a state s whose held values are lent as the words h: where they are the words of a record, as of the record, whose words are
-- stored from the first on; otherwise it is refused by cause 7 or 12 at place 0, with nothing read, and all stays
pub record DoesWords (s : State) (h : List ℕ) (out : Outputs) (script : List ℕ) (i : ℕ) (t : Step) (s' : State) (h' : List ℕ) (out' : Outputs) : Type 0 where
  pub done : record_in h ≡ true → Does (step_at s out script i) t s' out' × (h' ≡ sets h 0 (held_words s'.held))
  pub refused : record_in h ≡ false → Does (refusing s out (cause_of s h) 0 i false) t s' out' × (h' ≡ h)
