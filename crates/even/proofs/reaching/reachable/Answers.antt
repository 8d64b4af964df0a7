-- `even::reaching::reachable` meets its contract. Assumes nothing.
use native.Mathlib.Omega.{arith}
use Rattle.even.proofs.Turns.{start, turn, done}
use Rattle.even.proofs.reaching.reachable.Goals as goal

pub linked_tables-m-requires : goal.linked_tables-m-requires
linked_tables-m-requires c = c.requires

pub loop-k-init : goal.loop-k-init
loop-k-init c = (omega arith, λ S e. start S _ e)

pub through_tables-n-requires : goal.through_tables-n-requires
through_tables-n-requires c = c.loop-k-test.true

pub loop-k-preserved : goal.loop-k-preserved
loop-k-preserved c = (omega arith, λ S e. turn S _ _ _ c.loop-k-test.true (c.loop-k.invariant.1 S e) c.through_tables-n.ensures)

pub returns : goal.returns
returns c = done _ _ _ c.loop-k.invariant.0 c.loop-k-test.false (c.loop-k.invariant.1 _ c.linked_tables-m.ensures)
