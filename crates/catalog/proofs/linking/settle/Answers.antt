-- `catalog::linking::settle` meets its contract: a loop that stores. Assumes nothing.
use native.Mathlib.Omega.{arith}
use mathlib.Core.Path.{◌∙◌}
use Rattle.finite.proofs.Tables.{upto-start, upto-set, upto-here, upto-end}
use Rattle.catalog.proofs.LinkLaws.{settled-known}
use Rattle.catalog.proofs.linking.settle.Goals as goal

pub loop-x-init : goal.loop-x-init
loop-x-init c = (omega arith, upto-start _ _ _ _ c.requires.backed.1)

pub settled-requires : goal.settled-requires
settled-requires c = (c.loop-x-test.true, c.requires.backed.0)

pub loop-x-preserved : goal.loop-x-preserved
loop-x-preserved c = let u = c.loop-x.invariant.1 in
    let t = c.loop-x-test.true in
    (omega arith, upto-set _ _ _ _ _ _ u t _ (c.settled.ensures (λ a b. upto-here _ _ _ _ _ _ u t ∙ settled-known _ _ _ t c.args.next.now c.requires.linked a b)))

pub returns : goal.returns
returns c = upto-end _ _ _ _ _ _ c.loop-x.invariant.1 c.loop-x.invariant.0 c.loop-x-test.false
