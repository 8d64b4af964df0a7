-- `report::lines::put_command_line` meets its contract: the parts one behind the other. Assumes nothing.
use native.Mathlib.Omega.{arith}
use Rattle.finite.proofs.Writing.{behind}
use Rattle.report.specs.Report.{command_line}
use Rattle.report.proofs.Lengths.{decimal-reach, answer-reach}
use Rattle.report.proofs.lines.put_command_line.Goals as goal

pub put_answer-y-requires : goal.put_answer-y-requires
put_answer-y-requires c = omega (arith, decimal-reach _ _ _ _ _ c.put_decimal-z.ensures)

pub put_byte-requires : goal.put_byte-requires
put_byte-requires c = let a = c.args in
    omega (arith, decimal-reach _ _ _ _ _ c.put_decimal-z.ensures, answer-reach _ _ _ _ a.answer a.place a.text.now c.put_answer-y.ensures)

pub returns : goal.returns
unfolding command_line
returns c = behind c.put_decimal-z.ensures (behind c.put_answer-y.ensures c.put_byte.ensures)
