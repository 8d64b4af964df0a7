-- `opener::reading::lowest_opener` meets its contract. The invariant: the search for the lowest filling may go on from here. Assumes nothing.
use native.Mathlib.Omega.{arith}
use mathlib.Core.Path.{refl, ap, ◌∙◌}
use Rattle.model.specs.Cell.{numberless}
use Rattle.state.specs.Meaning.{cell_of}
use Rattle.opener.proofs.FillingLaws.{filling-here, filling_skip, filling-none}
use Rattle.opener.proofs.ValueLaws.{reads-some, reads-none}
use Rattle.opener.proofs.reading.lowest_opener.Goals as goal

pub loop-i-init : goal.loop-i-init
loop-i-init c = (omega arith, refl)

pub returns-in-Some : goal.returns-in-Some
returns-in-Some c = let m = reads-some _ _ _ c.in-Some.is c.lowest_value.ensures in
    filling-here _ _ _ _ _ _ (cell_of c.in-Some.w) m.0 c.loop-i.invariant.1 c.loop-i-test.true (ap numberless m.0 ∙ m.1)

pub loop-i-preserved : goal.loop-i-preserved
loop-i-preserved c = (omega (arith, c.loop-i-test.true), c.loop-i.invariant.1 ∙ filling_skip c.args.d _ _ _ _ c.loop-i.i _ refl (reads-none _ _ c.in_default.is c.lowest_value.ensures))

pub returns : goal.returns
returns c = filling-none _ _ _ _ _ _ c.loop-i.invariant.1 c.loop-i-test.false
