-- `format::repeating::first_repeat` meets its contract: the lowest next row, if it is one of the rows. Assumes nothing.
use native.Mathlib.Omega.{arith}
use Rattle.format.proofs.repeating.first_repeat.Goals as goal

pub returns-then-r-rows : goal.returns-then-r-rows
returns-then-r-rows c = λ D y. (c.lowest_next-r.ensures D y, c.if-r-rows.true)

pub returns-else-r-rows : goal.returns-else-r-rows
returns-else-r-rows c = λ D y. let e = c.lowest_next-r.ensures D y in omega (arith, e, c.if-r-rows.false)
