-- What the loops of `reason::lowest::lowest_value` keep.
use Prim.Native.Nat.{◌≤◌}
use mathlib.Core.Path.{◌≡◌}
use Rattle.state.specs.Cells.{cells_in}
use Rattle.state.specs.declared.design.Design.{Design}
use Rattle.state.specs.Held.{held_at}
use Rattle.state.specs.HeldWords.{words_held}
use Rattle.state.specs.Meaning.{database_of, scheme_of}
use Rattle.reason.specs.declared.lowest.Origin.TheVariants as O
use Rattle.reason.specs.Lowest.{none_found, lowest_below}
use Rattle.reason.proofs.lowest.lowest_value.Given as goal

abbrev pub invariant-loop-i : goal.invariant-loop-i
invariant-loop-i l = (l.i ≤ l.n) × ((d : Design) → d.filling ≡ l.filling → l.low ≡ lowest_below (scheme_of d) (database_of (cells_in l.rows.cells.now l.rows.issues.now) l.rows.tables.now) l.r (λ j. O.Value (held_at (words_held l.held) j).pair) l.i none_found)
