-- `opener::reading::lowest_value` meets its contract: a loop that keeps the lowest so far. Assumes nothing.
use native.Mathlib.Omega.{arith}
use Rattle.opener.specs.Reading.{lowest_of}
use Rattle.opener.proofs.ValueLaws.{reads-more, reads-end}
use Rattle.opener.proofs.reading.lowest_value.Goals as goal

pub loop-r-init : goal.loop-r-init
unfolding lowest_of
loop-r-init c = (omega arith, λ a h. h)

pub loop-r-preserved : goal.loop-r-preserved
loop-r-preserved c = (omega arith, λ a h. reads-more _ _ _ _ (c.lower-w.ensures _ _ (c.loop-r.invariant.1 a h) c.value_in-u.ensures))

pub returns : goal.returns
returns c = reads-end _ _ _ _ _ _ _ _ c.loop-r.invariant.0 c.loop-r-test.false (c.loop-r.invariant.1 _ c.own_value-w.ensures)
