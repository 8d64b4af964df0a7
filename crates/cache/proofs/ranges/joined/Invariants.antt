-- What the loops of `cache::ranges::joined` keep.
use Prim.Native.Nat.{◌≤◌}
use lib.ListN.{drop}
use Rattle.model.specs.Ranges.{joined}
use Rattle.state.specs.Meaning.{list_of, range_of}
use Rattle.cache.proofs.RangeRecord.{Done}
use Rattle.cache.proofs.ranges.joined.Given as goal

abbrev pub invariant-loop-i : goal.invariant-loop-i
invariant-loop-i l = (l.i ≤ l.s.count) × (l.out.count ≤ l.i) × Done l.out (joined (range_of l.whole) (drop l.i (list_of l.s))) (joined (range_of l.initial.whole) (list_of l.s))
