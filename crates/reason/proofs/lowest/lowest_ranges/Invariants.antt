-- What the loops of `reason::lowest::lowest_ranges` keep.
use Prim.Native.Nat.{◌≤◌}
use mathlib.Core.Path.{◌≡◌}
use Rattle.state.specs.Cells.{cells_in}
use Rattle.state.specs.HeldWords.{words_held}
use Rattle.state.specs.Meaning.{database_of, scheme_of}
use Rattle.reason.specs.Lowest.{lowest_of_desks}
use Rattle.reason.proofs.lowest.lowest_ranges.Given as goal

abbrev pub invariant-loop-e : goal.invariant-loop-e
invariant-loop-e l = (l.e ≤ 4) × (l.low ≡ lowest_of_desks (scheme_of l.d) (database_of (cells_in l.rows.cells.now l.rows.issues.now) l.rows.tables.now) l.r (words_held l.held).ranges l.e l.initial.low)
