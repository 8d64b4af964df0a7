-- `report::lines::put_refusal_line` meets its contract: the parts one behind the other. Assumes nothing.
use native.Mathlib.Omega.{arith}
use Rattle.finite.proofs.Writing.{behind}
use Rattle.report.specs.Report.{refusal_line}
use Rattle.report.proofs.Lengths.{spaced-reach}
use Rattle.report.proofs.lines.put_refusal_line.Goals as goal

pub put_spaced-x-requires : goal.put_spaced-x-requires
put_spaced-x-requires c = omega (arith, spaced-reach _ _ _ _ _ c.put_spaced-y.ensures)

pub put_byte-requires : goal.put_byte-requires
put_byte-requires c = omega (
  arith,
  spaced-reach _ _ _ _ _ c.put_spaced-y.ensures,
  spaced-reach _ _ _ _ _ c.put_spaced-x.ensures,
)

pub returns : goal.returns
unfolding refusal_line
returns c = behind c.put_bytes-z.ensures (behind (rw c.from.ensures at c.put_spaced-y.ensures) (behind c.put_spaced-x.ensures c.put_byte.ensures))
