-- What the loops of `report::lines::put_list_lines` keep.
use Prim.Native.Nat.{◌+◌, ◌*◌, ◌≤◌}
use mathlib.Core.Bool.{true}
use Rattle.finite.specs.Finite.{collect}
use Rattle.finite.specs.Writing.{Wrote}
use Rattle.report.specs.Report.{list_line}
use Rattle.report.proofs.lines.put_list_lines.Given as goal

abbrev pub invariant-loop-i : goal.invariant-loop-i
invariant-loop-i l = record {
  within : l.i ≤ l.n;
  room : l.z ≤ l.at + 11 * (l.p * l.i);
  wrote : Wrote l.initial.out l.out l.at l.z (collect l.i (λ _. true) (λ k. list_line l.words (l.p * k) l.p));
}
