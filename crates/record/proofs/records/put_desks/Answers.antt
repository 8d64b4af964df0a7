-- `cache::records::put_desks` meets its contract: the desks passed are stored. Assumes nothing.
use native.Mathlib.Omega.{arith}
use Rattle.record.proofs.RecordWords.{desked-start, desked-more, desked-end}
use Rattle.record.proofs.records.put_desks.Goals as goal

pub loop-e-init : goal.loop-e-init
loop-e-init c = desked-start c.args.held.now c.requires.0

pub offset_bounds-ss-e : goal.offset_bounds-ss-e
offset_bounds-ss-e c = omega (arith, c.loop-e-test.true)

pub bounds-ss-e : goal.bounds-ss-e
bounds-ss-e c = omega (arith, c.loop-e-test.true)

pub set_ranges-requires : goal.set_ranges-requires
set_ranges-requires c = (c.loop-e-test.true, c.requires.1 _ c.loop-e-test.true, c.loop-e.invariant.whole)

pub overflow_step-e : goal.overflow_step-e
overflow_step-e c = omega (arith, c.loop-e-test.true)

pub loop-e-smaller : goal.loop-e-smaller
loop-e-smaller c = omega (arith, c.loop-e-test.true)

pub loop-e-preserved : goal.loop-e-preserved
loop-e-preserved c = desked-more c.loop-e.invariant c.loop-e-test.true c.set_ranges.ensures

pub returns : goal.returns
returns c = desked-end c.loop-e.invariant c.loop-e-test.false
