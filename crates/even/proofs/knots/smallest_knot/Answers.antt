-- `even::knots::smallest_knot` meets its contract: no set weighs less than `far`, or the lightest one is told by its weight. Assumes nothing.
use Rattle.even.proofs.KnotFound.{told-knot, told-even}
use Rattle.even.proofs.knots.smallest_knot.Goals as goal

pub returns-then-w-ge-FAR : goal.returns-then-w-ge-FAR
returns-then-w-ge-FAR c = told-even _ c.requires _ c.knot_weight-w.ensures c.if-w-ge-FAR.true

pub returns : goal.returns
returns c = told-knot _ c.requires _ c.knot_weight-w.ensures c.if-w-ge-FAR.false
