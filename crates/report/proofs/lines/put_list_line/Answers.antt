-- `report::lines::put_list_line` meets its contract: the first number, the others, a newline. Assumes nothing.
use native.Mathlib.Omega.{arith}
use Prim.Native.Nat.{◌-◌}
use lib.ListN.{length, drop, length-take, length-drop}
use Rattle.finite.proofs.Writing.{behind}
use Rattle.report.specs.Report.{list_line}
use Rattle.report.proofs.Answers.{later-numbers}
use Rattle.report.proofs.Lengths.{decimal-reach-32, words-reach}
use Rattle.report.proofs.lines.put_list_line.Goals as goal

pub put_words-y-requires : goal.put_words-y-requires
put_words-y-requires c = omega (
  arith,
  length-take (length c.args.list.now - 1) (drop 1 c.args.list.now),
  length-drop 1 c.args.list.now,
  decimal-reach-32 _ _ _ _ _ (c.type_inv.list 0).fits (rw c.from.ensures at c.put_decimal-z.ensures),
)

pub put_byte-requires : goal.put_byte-requires
put_byte-requires c = omega (
  arith,
  decimal-reach-32 _ _ _ _ _ (c.type_inv.list 0).fits (rw c.from.ensures at c.put_decimal-z.ensures),
  words-reach _ _ _ _ c.args.list.now (λ i. (c.type_inv.list i).fits) 1 _ (rw later-numbers at c.put_words-y.ensures),
)

pub returns : goal.returns
unfolding list_line
returns c = behind (rw c.from.ensures at c.put_decimal-z.ensures) (behind (rw later-numbers at c.put_words-y.ensures) c.put_byte.ensures)
