-- `report::lines::put_design_line` meets its contract: the parts one behind the other. Assumes nothing.
use native.Mathlib.Omega.{arith}
use Rattle.finite.proofs.Writing.{behind}
use Rattle.report.specs.Report.{design_line}
use Rattle.report.proofs.Lengths.{spaced-reach}
use Rattle.report.proofs.lines.put_design_line.Goals as goal

pub put_spaced-x-requires : goal.put_spaced-x-requires
put_spaced-x-requires c = omega (arith, spaced-reach _ _ _ _ _ c.put_spaced-y.ensures)

pub put_spaced-w-requires : goal.put_spaced-w-requires
put_spaced-w-requires c = omega (
  arith,
  spaced-reach _ _ _ _ _ c.put_spaced-y.ensures,
  spaced-reach _ _ _ _ _ c.put_spaced-x.ensures,
)

pub put_spaced-v-requires : goal.put_spaced-v-requires
put_spaced-v-requires c = omega (
  arith,
  spaced-reach _ _ _ _ _ c.put_spaced-y.ensures,
  spaced-reach _ _ _ _ _ c.put_spaced-x.ensures,
  spaced-reach _ _ _ _ _ c.put_spaced-w.ensures,
)

pub put_byte-requires : goal.put_byte-requires
put_byte-requires c = omega (
  arith,
  spaced-reach _ _ _ _ _ c.put_spaced-y.ensures,
  spaced-reach _ _ _ _ _ c.put_spaced-x.ensures,
  spaced-reach _ _ _ _ _ c.put_spaced-w.ensures,
  spaced-reach _ _ _ _ _ c.put_spaced-v.ensures,
)

pub returns : goal.returns
unfolding design_line
returns c = behind c.put_bytes-z.ensures
    (behind c.put_spaced-y.ensures
    (behind c.put_spaced-x.ensures
    (behind c.put_spaced-w.ensures (behind c.put_spaced-v.ensures c.put_byte.ensures))))
