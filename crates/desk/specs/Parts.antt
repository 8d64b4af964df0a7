-- The report handed out part by part: the first text, what a buffer holds of the report, and where in the report a part stands. Assumes nothing.
use Rattle.std.specs.Prelude.{ℕ, ◌≤◌, ◌<◌, ◌≡◌, Bool, true, false, List, ◌++◌, ltb, length, take, drop, replicate}
use Rattle.finite.specs.Writing.{Wrote}
use Rattle.state.specs.Cells.{Cells, cells_in}
use Rattle.state.specs.declared.design.Design.{Design}
use Rattle.state.specs.Held.{none_held}
use Rattle.state.specs.Lent.{State, lent, sound}
use Rattle.format.specs.declared.verdict.Verdict.{Verdict}
use Rattle.format.specs.declared.verdict.Verdict.TheVariants.{Accepted, Refused}
use Rattle.report.specs.Report.{design_line, refusal_line}
use Rattle.script.specs.Step.{Outputs, outputs}
use Rattle.script.specs.JustRead.{Buffers, buffers, reading_of}
use Rattle.desk.specs.declared.reporting.Progress.{Progress}
use Rattle.desk.specs.declared.Handed.{Handed}
use Rattle.desk.specs.Printed.{report_of, rest_of}

-- ---- the first text

-- "design with tables, constraints, fillings and rows", or "A refused design prints only refused number place"
unfoldable pub first_text : Design → ℕ → Verdict → List ℕ
first_text d rows (Accepted i) = design_line d rows
first_text d rows (Refused n i) = refusal_line n i

-- the place of the first command, and whether there is one
abbrev pub first_place : Verdict → ℕ
first_place (Accepted i) = i
first_place (Refused n i) = i

unfoldable pub any_command : List ℕ → Verdict → Bool
any_command script (Accepted i) = ltb i (length script)
any_command script (Refused n i) = false

-- the first text in a buffer, o before and o' after, and the progress p with which the report goes on
pub record First (script : List ℕ) (d : Design) (rows : ℕ) (v : Verdict) (o o' : List ℕ) (p : Progress) : Type 0 where
  pub wrote : Wrote o o' 0 p.end (first_text d rows v)
  pub at : p.at ≡ first_place v
  pub number : p.number ≡ 0
  pub more : p.more ≡ any_command script v
  pub design : p.design ≡ d

-- ---- between two parts

-- the first n bytes of the buffer o, with `rest` behind them, are what was left
pub record Part (left o : List ℕ) (n : ℕ) (rest : List ℕ) : Type 0 where
  pub fits : n ≤ length o
  pub whole : left ≡ take n o ++ rest

-- where a command follows, it stands in the script, and the state s can be worked on
pub record NextReady (script : List ℕ) (s : State) (p : Progress) : Type 0 where
  pub sound : sound s ≡ true
  pub at : p.at < length script
  pub number : p.number ≤ p.at

-- what `begin` gives, where b was lent and the rows, their tables and the marks are then cs, ts and ms: the buffer o has the first part of the report, and nothing is held
pub record Begins (script : List ℕ) (b : Buffers) (cs : Cells) (ts ms o : List ℕ) (p : Progress) : Type 0 where
  pub part : Part (report_of script b (reading_of script b)) o p.end (rest_of script (lent p.design cs ts ms none_held) b.outputs p)
  pub ready : p.more ≡ true → NextReady script (lent p.design cs ts ms none_held) p

-- what `next_part` gives, from p to q: the buffer o has the next part. The state e, and w, which is lent for
-- answers, are those afterwards.
pub record Continues (script : List ℕ) (s : State) (outs : Outputs) (p : Progress) (o : List ℕ) (e : State) (w : Outputs) (q : Progress) : Type 0 where
  pub part : Part (rest_of script s outs p) o q.end (rest_of script e w q)
  pub ready : q.more ≡ true → NextReady script e q
  pub on : q.more ≡ true → p.at < q.at

-- ---- the whole report of a script

-- what the desk lends: cells, issues, row tables, marks, answer words and text ("the program lends 16,384 bytes"), all 0
abbrev pub lent_buffers : Buffers
lent_buffers = buffers (cells_in (replicate 4096 0) (replicate 4096 0)) (replicate 512 0) (replicate 512 0)
    (outputs (replicate 4096 0) (replicate 16384 0))

unfoldable pub desk_report : List ℕ → List ℕ
desk_report script = report_of script lent_buffers (reading_of script lent_buffers)

-- a part is what a text has from byte `done` on
pub record Stands (text : List ℕ) (done : ℕ) (part : List ℕ) : Type 0 where
  pub here : part ≡ take (length part) (drop done text)

-- how much of a text has been handed over: all of it, unless that failed
pub record HandedOver (text : List ℕ) (h : Handed) : Type 0 where
  pub within : h.bytes ≤ length text
  pub whole : h.well ≡ true → h.bytes ≡ length text
