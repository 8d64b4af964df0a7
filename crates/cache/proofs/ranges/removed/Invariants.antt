-- What the loops of `cache::ranges::removed` keep.
use Prim.Native.Nat.{◌≤◌}
use lib.ListN.{drop}
use Rattle.finite.specs.Sameness.{remove}
use Rattle.model.specs.Ranges.{same_range}
use Rattle.state.specs.Meaning.{list_of, range_of}
use Rattle.cache.proofs.RangeRecord.{Done}
use Rattle.cache.proofs.ranges.removed.Given as goal

abbrev pub invariant-loop-i : goal.invariant-loop-i
invariant-loop-i l = (l.i ≤ l.s.count) × (l.out.count ≤ l.i) × Done l.out (remove same_range (range_of l.r) (drop l.i (list_of l.s))) (remove same_range (range_of l.r) (list_of l.s))
