-- What the loops of `report::lines::put_words` keep.
use Prim.Native.Nat.{◌+◌, ◌*◌, ◌≤◌}
use mathlib.Core.Bool.{true}
use lib.ListN.{get_or}
use Rattle.finite.specs.Finite.{collect}
use Rattle.finite.specs.Writing.{Wrote}
use Rattle.finite.specs.Decimal.{spaced}
use Rattle.report.proofs.lines.put_words.Given as goal

abbrev pub invariant-loop-word : goal.invariant-loop-word
invariant-loop-word l = record {
  room : l.z ≤ l.at + 11 * l.word-index;
  wrote : Wrote l.initial.out l.out l.at l.z (collect l.word-index (λ _. true) (λ k. spaced (get_or l.words k 0)));
}
