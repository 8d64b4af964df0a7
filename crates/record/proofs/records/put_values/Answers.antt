-- `cache::records::put_values` meets its contract: the values passed are stored. Assumes nothing.
use native.Mathlib.Omega.{arith}
use Rattle.record.proofs.RecordWords.{valued-start, valued-more, valued-end}
use Rattle.record.proofs.records.put_values.Goals as goal

pub loop-i-init : goal.loop-i-init
loop-i-init c = valued-start c.args.held.now c.requires

pub offset_bounds-vs-i : goal.offset_bounds-vs-i
offset_bounds-vs-i c = omega (arith, c.loop-i-test.true)

pub bounds-vs-i : goal.bounds-vs-i
bounds-vs-i c = omega (arith, c.loop-i-test.true)

pub set_value-requires : goal.set_value-requires
set_value-requires c = (c.loop-i-test.true, c.loop-i.invariant.whole)

pub overflow_step-i : goal.overflow_step-i
overflow_step-i c = omega (arith, c.loop-i-test.true)

pub loop-i-smaller : goal.loop-i-smaller
loop-i-smaller c = omega (arith, c.loop-i-test.true)

pub loop-i-preserved : goal.loop-i-preserved
loop-i-preserved c = valued-more c.loop-i.invariant c.loop-i-test.true c.set_value.ensures

pub returns : goal.returns
returns c = valued-end c.loop-i.invariant c.loop-i-test.false
