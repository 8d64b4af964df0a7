-- `load::outcome::settle` meets its contract: a loop that stores in the front of the marks. Assumes nothing.
use native.Mathlib.Omega.{arith}
use mathlib.Core.Path.{refl}
use Rattle.finite.proofs.Tables.{upto-set, upto-start, upto-stored}
use Rattle.model.specs.Rounds.{reached}
use Rattle.load.proofs.outcome.settle.Goals as goal

pub loop-r-init : goal.loop-r-init
loop-r-init c = (omega arith, upto-start 0 _ _ _ refl)

pub loop-r-preserved : goal.loop-r-preserved
unfolding reached
loop-r-preserved c = (omega arith, upto-set 0 _ _ _ _ _ c.loop-r.invariant.1 (omega arith) _ c.settled_mark.ensures)

pub returns : goal.returns
returns c = let i = c.loop-r.invariant in
    upto-stored 0 _ _ _ c.args.marks.now _ i.1 i.0 c.loop-r-test.false c.requires.0
