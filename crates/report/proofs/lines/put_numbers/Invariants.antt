-- What the loops of `report::lines::put_numbers` keep.
use Prim.Native.Nat.{◌+◌, ◌*◌, ◌≤◌}
use mathlib.Core.Bool.{true}
use lib.ListN.{get_or}
use Rattle.finite.specs.Finite.{collect}
use Rattle.finite.specs.Writing.{Wrote}
use Rattle.finite.specs.Decimal.{spaced}
use Rattle.report.proofs.lines.put_numbers.Given as goal

abbrev pub invariant-loop-number : goal.invariant-loop-number
invariant-loop-number l = record {
  room : l.z ≤ l.at + 21 * l.number-index;
  wrote : Wrote l.initial.out l.out l.at l.z (collect l.number-index (λ _. true) (λ k. spaced (get_or l.numbers k 0)));
}
