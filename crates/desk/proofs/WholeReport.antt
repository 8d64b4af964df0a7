-- The parts of a report, one behind the other, are the report: it begins with the design's line and what is then still to be printed, each part is
-- what was to be printed before what is left (`Printed.whole`), and where no command follows nothing is left. Assumes nothing.
use Prim.Native.Nat.{ℕ}
use mathlib.Core.Path.{◌≡◌, sym, ap, ◌∙◌}
use mathlib.Core.Bool.{Bool, true, false, cond}
use mathlib.Core.List.{List, [], ◌++◌}
use mathlib.Core.Logic.{⊎_elim}
use borrow.Author.Tests.{ltb-false}
use lib.Dec.{ltb}
use lib.ListN.{length}
use Rattle.finite.proofs.Bools.{dec}
use Rattle.state.specs.Lent.{State}
use Rattle.format.specs.Reading.{Draft}
use Rattle.format.specs.Reading.DesignRead.{accepted}
use Rattle.report.specs.Report.{design_line}
use Rattle.script.specs.Step.{Outputs}
use Rattle.script.specs.JustRead.{Buffers, just_read}
use Rattle.desk.specs.declared.reporting.Progress.{Progress}
use Rattle.desk.specs.Printed.{text_at, rest_of, report_of}
use Rattle.desk.proofs.TextLaws.{text-past}

-- THEOREM: the report of an accepted design is its line, and what is still to be printed at the place after its END
pub report-begins : (script : List ℕ) (b : Buffers) (p : Draft) (i : ℕ) (q : Progress) → q.at ≡ i → q.number ≡ 0 → q.more ≡ ltb i (length script) →
    report_of script b (accepted p i) ≡ design_line p.design p.rows ++ rest_of script (just_read (accepted p i) b) b.outputs q
unfolding rest_of
report-begins script b p i q a n m = ap (λ (t : List ℕ). design_line p.design p.rows ++ t) (sym (rest q.more q.number q.at a n m))
  where
    lines : List ℕ
    lines = text_at script (just_read (accepted p i) b) b.outputs 0 i

    rest : (more : Bool) (number at : ℕ) → at ≡ i → number ≡ 0 → more ≡ ltb i (length script) →
        cond more (text_at script (just_read (accepted p i) b) b.outputs number at) [] ≡ lines
    rest more number at a n m =
        ⊎_elim
        (λ (t : ltb i (length script) ≡ true). rw (m ∙ t, a, n))
        (λ (f : ltb i (length script) ≡ false). rw (m ∙ f) (sym (text-past script _ _ 0 i (length script) (ltb-false i (length script) f))))
        (dec (ltb i (length script)))

-- THEOREM: where no command follows, nothing is left to be printed
pub report-ends : (script : List ℕ) (s : State) (outs : Outputs) (q : Progress) → q.more ≡ false → rest_of script s outs q ≡ []
unfolding rest_of
report-ends script s outs q m = rw m
