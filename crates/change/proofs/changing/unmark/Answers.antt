-- `change::changing::unmark` meets its contract: the marks that stay, or those of a load from nothing. Assumes nothing.
use Rattle.change.proofs.LeavingLaws.{leaving-uncached, leaving-last}
use Rattle.change.proofs.changing.unmark.Goals as goal

pub returns-then-marks-r-ne1 : goal.returns-then-marks-r-ne1
returns-then-marks-r-ne1 c E F x y = leaving-uncached c.requires.r_bound.3 y c.if-marks-r-ne1.true

pub returns-then-on : goal.returns-then-on
returns-then-on c E F x y = c.remark.ensures E x

pub returns : goal.returns
returns c E F x y = leaving-last c.requires.r_bound.3 y c.if-marks-r-ne1.false c.if-on.false
