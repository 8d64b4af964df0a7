-- How much the step at a place of a script would write on a lent state, where enough is lent: what its operation takes (operate's specs/Sizes.antt), and nothing
-- with a command that is no operation or in a script that is too long. Assumes nothing.
use Rattle.std.specs.Prelude.{ℕ, cond, List, ltb, length}
use Rattle.state.specs.declared.operation.Operation.{Operation}
use Rattle.state.specs.Lent.{State}
use Rattle.command.specs.declared.command.Command.{Command}
use Rattle.command.specs.declared.command.Command.TheVariants.{Table, Constraint, Filling, Row, End, Operate, Put, Remove, Unknown, Short}
use Rattle.command.specs.Commands.{command_at}
use Rattle.format.specs.Reading.{most_bytes}
use Rattle.sizes.specs.Sizes.{words_taken, text_taken}

-- f of an operation, and 0 of any other command: a row that is put in or removed, and a refusal, write neither words nor text
unfoldable pub of_operation : (Operation → ℕ) → Command → ℕ
of_operation f (Operate op) = f op
of_operation f (Put r t) = 0
of_operation f (Remove r) = 0
of_operation f (Table t) = 0
of_operation f (Constraint c) = 0
of_operation f (Filling c) = 0
of_operation f (Row t) = 0
of_operation f End = 0
of_operation f Unknown = 0
of_operation f Short = 0

-- f of the operation at place i of the script
unfoldable pub of_step : (Operation → ℕ) → List ℕ → ℕ → ℕ
of_step f script i = cond (ltb most_bytes (length script)) 0 (of_operation f (command_at script i))

-- the answer words that the step at place i takes, and the bytes of text
abbrev pub words_taken_at : State → List ℕ → ℕ → ℕ
words_taken_at s = of_step (words_taken s)

abbrev pub text_taken_at : State → List ℕ → ℕ → ℕ
text_taken_at s = of_step (text_taken s)
