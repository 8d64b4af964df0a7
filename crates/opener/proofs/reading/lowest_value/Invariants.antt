-- What the loops of `opener::reading::lowest_value` keep.
use Prim.Native.Nat.{◌≤◌}
use Rattle.model.specs.Cell.{Cell}
use Rattle.model.specs.Rounds.{reached}
use Rattle.state.specs.Cells.{cells_in}
use Rattle.state.specs.Meaning.{database_of, filling_of}
use Rattle.opener.specs.Reading.{Reads, lowest_of, value_in}
use Rattle.opener.proofs.reading.lowest_value.Given as goal

abbrev pub invariant-loop-r : goal.invariant-loop-r
invariant-loop-r l = (l.r ≤ 512) × ((a : Cell) → Reads l.initial.w a → Reads l.w (lowest_of a l.r (value_in (database_of (cells_in l.rows.cells.now l.rows.issues.now) l.rows.tables.now) (reached l.levels) (filling_of l.f))))
