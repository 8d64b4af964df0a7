-- `report::lines::put_numbers` meets its contract. The invariant: the numbers passed are written, in at most 21 bytes each. Assumes nothing.
use native.Mathlib.Omega.{arith}
use Rattle.finite.proofs.Writing.{written_none, written-more, written-end}
use Rattle.report.specs.Report.{numbers_text}
use Rattle.report.proofs.Lengths.{spaced-reach}
use Rattle.report.proofs.lines.put_numbers.Goals as goal

pub loop-number-init : goal.loop-number-init
loop-number-init c = record { room = omega arith; wrote = written_none _ _ _ }

pub loop-number-preserved : goal.loop-number-preserved
loop-number-preserved c = record { room = omega (arith, spaced-reach _ _ _ _ _ c.put_spaced-z.ensures); wrote = written-more _ _ _ _ _ _ _ _ c.loop-number.invariant.wrote c.put_spaced-z.ensures }

pub returns : goal.returns
unfolding numbers_text
returns c = written-end _ _ _ _ _ _ _ (omega arith) (omega arith) c.loop-number.invariant.wrote
