-- What the loops of `format::reading::store_issues` keep.
use Prim.Native.Nat.{◌*◌, ◌≤◌}
use Rattle.finite.proofs.Stores.{Tabled}
use Rattle.command.specs.Commands.{row_issue_at}
use Rattle.format.proofs.reading.store_issues.Given as goal

abbrev pub invariant-loop-c : goal.invariant-loop-c
invariant-loop-c l = (l.c ≤ 8) × Tabled (row_issue_at l.script l.at) l.initial.issues (8 * l.r) l.c l.issues
