-- Any list of calls of the exported functions, each on the memory and the arrays that the call before left (01, "Runs"), and the actions that they are. What a call leaves is
-- said by the records in which the contracts of the functions say it (wurzsige, specs/Calls.antt). Assumes nothing.
use Rattle.std.specs.Prelude.{ℕ, ◌<◌, ◌≡◌, List, [], ◌∷◌, ◌++◌, length, get_or}
use Rattle.model.specs.Answers.{refused_word}
use Rattle.run.specs.Moments.{Action}
use Rattle.script.specs.Step as Step
use Rattle.script.specs.Step.{Outputs, rooms_of}
use Rattle.run.specs.Runs.{left_from}
use Rattle.script.specs.JustRead.{Buffers, buffers}
use Rattle.wurzsige.specs.Calls.{Memory, state_in, Arrays, Trusts, PlainStep, TrustedStep, opening, OpenTaken, RunMade}
use Rattle.demands.specs.Actions.{actions_of_step, actions_of_run}

-- what is handed over beside the memory: a script of its own, which is bytes, a place in it, and what is lent for answers
pub record Handed : Type 0 where
  pub script : List ℕ
  pub bytes : (j : ℕ) → get_or script j 0 < 256
  pub place : ℕ
  pub out : Outputs

-- which function is called: a step, plain or trusted; all steps from the place on; another opening, which is refused (one that is accepted begins a new list of calls); or
-- one of those that read the memory alone, writing the design out and asking how much to lend
pub data Call : Type 0 where
  step : Handed → Call
  run : Handed → Call
  refused-open : List ℕ → Call
  look : Call

-- what it does, by the command that stands at the place, or by all from there on: an operation, a change of the rows, or nothing
unfoldable pub actions_of : Call → List Action
actions_of (step h) = actions_of_step h.script (rooms_of h.out) h.place
actions_of (run h) = actions_of_run h.script (rooms_of h.out) h.place
actions_of (refused-open script) = []
actions_of look = []

unfoldable pub actions_of_all : List Call → List Action
actions_of_all [] = []
actions_of_all (c ∷ more) = actions_of c ++ actions_of_all more

-- A step at the place of a script: what is told are the number n of the answer's word, its numbers ns and their count c, the place p of a refusal, the place q after the
-- command, and g, whether reading goes on. The memory m with the arrays k becomes m' with k', and what is lent for answers out', as the contract of the function
-- says: `wurzsige_parts_step` asks for nothing, `wurzsige_parts_step_trusted` for memory that it can trust.
pub data Steps (m : Memory) (k : Arrays) (h : Handed) (n : ℕ) (ns : List ℕ) (c p q g : ℕ) (m' : Memory) (k' : Arrays) (out' : Outputs) : Type 0 where
  plain : PlainStep m k h.out h.script h.place n ns c p q g m' k' out' → Steps m k h n ns c p q g m' k' out'
  trusted : Trusts m k → TrustedStep m h.out h.script h.place n ns c p q g m' k' out' → Steps m k h n ns c p q g m' k' out'

-- One call: a step, `wurzsige_parts_run_trusted`, `wurzsige_parts_open` with the word of a refusal, `wurzsige_parts_write` or `wurzsige_parts_sizes`
pub data Makes (m : Memory) (k : Arrays) : Call → Memory → Arrays → Type 0 where
  one-step : (h : Handed) (n : ℕ) (ns : List ℕ) (c p q g : ℕ) (m' : Memory) (k' : Arrays) (out' : Outputs) → Steps m k h n ns c p q g m' k' out' →
      Makes m k (step h) m' k'
  all-steps : (h : Handed) (m' : Memory) (k' : Arrays) (out' : Outputs) → Trusts m k →
      RunMade (left_from (length h.script) h.script (state_in m) h.out h.place) m m' k' out' → Makes m k (run h) m' k'
  opens-refused : (script : List ℕ) (n : ℕ) (ns : List ℕ) (c p q g : ℕ) (m' : Memory) (k' : Arrays) → OpenTaken (opening script m) n ns c p q g m m' k k' →
      n ≡ refused_word → Makes m k (refused-open script) m' k'
  looks : Makes m k look m k

-- any list of calls, each on the memory and the arrays that the call before left
pub data Calls : Memory → Arrays → List Call → Memory → Arrays → Type 0 where
  none : {m : Memory} {k : Arrays} → Calls m k [] m k
  next : {m : Memory} {k : Arrays} {c : Call} {more : List Call} {e : Memory} {l : Arrays} (m' : Memory) (k' : Arrays) → Makes m k c m' k' →
      Calls m' k' more e l → Calls m k (c ∷ more) e l

-- the buffers that opening a design is lent: the rows and marks of the memory
abbrev pub lent_by : Memory → Buffers
lent_by m = buffers m.cells m.tables m.marks (Step.outputs [] [])
