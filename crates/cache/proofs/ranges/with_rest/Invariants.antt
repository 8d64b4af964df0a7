-- What the loops of `cache::ranges::with_rest` keep.
use Prim.Native.Nat.{◌+◌, ◌≤◌}
use mathlib.Core.List.{List, ◌++◌}
use mathlib.Core.Path.{◌≡◌}
use lib.ListN.{drop}
use Rattle.model.specs.Ranges.{Range}
use Rattle.state.specs.Meaning.{list_back, list_of}
use Rattle.cache.proofs.RangeRecord.{Done}
use Rattle.cache.proofs.ranges.with_rest.Given as goal

abbrev pub invariant-loop-q : goal.invariant-loop-q
invariant-loop-q l = (l.i + l.q-index ≤ l.fn.s.count) × (l.t.count ≤ l.i + l.q-index + 1) × ((rs : List Range) → l.initial.t ≡ list_back rs →
    Done l.t (drop (l.i + l.q-index) (list_of l.fn.s)) (rs ++ drop l.i (list_of l.fn.s)))
