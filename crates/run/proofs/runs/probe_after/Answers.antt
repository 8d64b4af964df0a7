-- `run::runs::probe_after` meets its contract: the run, and a probe of the sound state that it leaves. Assumes nothing.
use native.Mathlib.Omega.{arith}
use Rattle.run.proofs.ProbedLaws.{cell-fits, refused-probed, behind-sound, accepted-probed}
use Rattle.run.proofs.runs.probe_after.Goals as goal

pub returns-in-Refused : goal.returns-in-Refused
returns-in-Refused c = refused-probed _ _ _ _ _ _ c.run_catalogued-left.ensures.ran _ _ c.in-Refused.is _ _

pub probe_lawful-answer-requires : goal.probe_lawful-answer-requires
probe_lawful-answer-requires c = let k = c.run_catalogued-left.ensures.by_index _ c.in_default.is in
    (_, _, behind-sound _ _ _ _ _ _ c.run_catalogued-left.ensures.ran _ c.in_default.is, k.index)

pub returns : goal.returns
returns c = accepted-probed _ _ _ _ _ _ c.run_catalogued-left.ensures.ran _ c.in_default.is (record { at = λ j. omega (arith, c.shared_slice_known-1.given j) }) _ _
    (cell-fits c.args.v _ c.well_formed.1.1.1.1.1.1.1.1.1.0) _
    (c.probe_lawful-answer.ensures _ _ (behind-sound _ _ _ _ _ _ c.run_catalogued-left.ensures.ran _ c.in_default.is) (c.run_catalogued-left.ensures.by_index _ c.in_default.is).index)
