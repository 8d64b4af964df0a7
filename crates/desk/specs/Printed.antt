-- What the desk prints for a script (01, "The desk program's report"). Assumes nothing.
use Rattle.std.specs.Prelude.{ℕ, zero, suc, ◌+◌, ◌≡◌, true, cond, List, [], ◌++◌, leb, length, get_or}
use Rattle.finite.specs.Writing.{Wrote}
use Rattle.model.specs.Answers.{Answer, shown, has_lists}
use Rattle.state.specs.Lent.{State, sound}
use Rattle.command.specs.Bytes.{byte_at}
use Rattle.format.specs.Reading.{DesignRead}
use Rattle.format.specs.Reading.DesignRead.{accepted, refused_at}
use Rattle.report.specs.Report.{command_line, design_line, refusal_line, list_lines}
use Rattle.script.specs.Step.{Outputs, Stepped, step_at}
use Rattle.script.specs.JustRead.{Buffers, just_read}
use Rattle.desk.specs.declared.reporting.Progress.{Progress}

-- how many lists an answer has: the first number behind its word
abbrev pub lists_in : Answer → ℕ
lists_in a = get_or (shown a).numbers 0 0

-- "each list on a line after it": p row numbers to a list; nothing behind an answer that has no lists
unfoldable pub lists_text : Answer → List ℕ → ℕ → List ℕ
lists_text a words p = cond (has_lists a) (list_lines words (lists_in a) p) []

-- how many positions the QUERY at place i has: its joins, and position 0
abbrev pub positions_at : List ℕ → ℕ → ℕ
positions_at script i = byte_at script (i + 7) + 1

-- the lines of the command at place i
unfoldable pub step_text : List ℕ → ℕ → ℕ → Stepped → List ℕ
step_text script i number r =
    command_line number r.answer r.place r.outputs.text ++ lists_text r.answer r.outputs.words (positions_at script i)

-- "for each command after END, a faulty one too": the lines from place i on, with n more commands at the most. "After 1 or 2 the program stops"
unfoldable pub text_from : ℕ → List ℕ → State → Outputs → ℕ → ℕ → List ℕ
text_from zero script s outs number i = []
text_from (suc n) script s outs number i =
    cond (leb (length script) i) []
    (let r = step_at s outs script i in
    step_text script i number r ++ cond r.more (text_from n script r.state r.outputs (number + 1) r.next) [])

-- a command takes at least one byte
abbrev pub text_at : List ℕ → State → Outputs → ℕ → ℕ → List ℕ
text_at script s outs number i = text_from (length script) script s outs number i

-- the whole report, where the buffers b are lent
abbrev pub report_of : List ℕ → Buffers → DesignRead → List ℕ
report_of script b (accepted p i) = design_line p.design p.rows ++ text_at script (just_read (accepted p i) b) b.outputs 0 i
report_of script b (refused_at n i) = refusal_line n i

-- ---- part by part

-- what is still to be printed
unfoldable pub rest_of : List ℕ → State → Outputs → Progress → List ℕ
rest_of script s outs p = cond p.more (text_at script s outs p.number p.at) []

-- The part of the report that was written into the buffer, o before and o' after, between p and q: with what is left it is what was left before.
-- The state e, and w, which is lent for answers, are those afterwards.
pub record Printed (script : List ℕ) (s : State) (outs : Outputs) (p : Progress) (o o' : List ℕ) (e : State) (w : Outputs) (q : Progress) : Type 0 where
  pub part : List ℕ
  pub wrote : Wrote o o' p.end q.end part
  pub whole : rest_of script s outs p ≡ part ++ rest_of script e w q
  pub sound : sound e ≡ true
