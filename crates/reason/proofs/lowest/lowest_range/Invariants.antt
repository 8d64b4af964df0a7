-- What the loops of `reason::lowest::lowest_range` keep.
use Prim.Native.Nat.{◌≤◌}
use mathlib.Core.Path.{◌≡◌}
use lib.ListN.{get_or}
use Rattle.state.specs.Cells.{cells_in}
use Rattle.state.specs.declared.design.Design.{Design}
use Rattle.state.specs.Held.{no_range}
use Rattle.state.specs.Meaning.{database_of, scheme_of}
use Rattle.reason.specs.declared.lowest.Origin.TheVariants as O
use Rattle.reason.specs.Lowest.{lowest_below}
use Rattle.reason.proofs.lowest.lowest_range.Given as goal

abbrev pub invariant-loop-i : goal.invariant-loop-i
invariant-loop-i l = (l.i ≤ l.i-end) × ((d : Design) → d.filling ≡ l.filling → l.low ≡ lowest_below (scheme_of d) (database_of (cells_in l.rows.cells.now l.rows.issues.now) l.rows.tables.now) l.r (λ j. O.Range (get_or l.list j no_range)) l.i l.initial.low)
