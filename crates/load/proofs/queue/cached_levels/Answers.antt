-- `load::queue::cached_levels` meets its contract: a loop that stores. Assumes nothing.
use native.Mathlib.Omega.{arith}
use Prim.Native.Nat.{ℕ, ◌<◌}
use mathlib.Core.Path.{ap, ◌∙◌}
use lib.Dec.{eqb}
use mathlib.Core.Bool.{cond}
use lib.Seq.{get_or-take, length-take-le}
use Rattle.finite.proofs.Tables.{upto-end, upto-set, upto-start}
use Rattle.model.specs.Runs.{marked}
use Rattle.load.proofs.queue.cached_levels.Goals as goal

pub loop-r-init : goal.loop-r-init
loop-r-init c = (omega arith, upto-start 0 _ _ _ c.requires.1)

pub bounds-levels-r : goal.bounds-levels-r
bounds-levels-r c = omega (arith, c.loop-r-test.true, length-take-le 512 c.args.marks.now c.requires.0)

pub loop-r-preserved : goal.loop-r-preserved
unfolding marked
loop-r-preserved c =
    let l : c.loop-r.r < 512 = omega (arith, c.loop-r-test.true, length-take-le 512 c.args.marks.now c.requires.0) in
    (omega (arith, l), upto-set 0 _ _ _ _ _ c.loop-r.invariant.1 l _ (c.cached_level.ensures ∙ ap (λ (m : ℕ). cond (eqb m 1) 1 0) (get_or-take 512 c.args.marks.now c.loop-r.r 0 l)))

pub returns : goal.returns
returns c = upto-end _ _ _ _ _ _ c.loop-r.invariant.1 c.loop-r.invariant.0 (omega (arith, c.loop-r-test.false, length-take-le 512 c.args.marks.now c.requires.0))
