-- What the loops of `opener::reading::lowest_opener` keep.
use Prim.Native.Nat.{◌≤◌}
use mathlib.Core.Path.{◌≡◌}
use Rattle.finite.specs.Finite.{first_from}
use Rattle.model.specs.Rounds.{reached}
use Rattle.state.specs.Cells.{cells_in}
use Rattle.state.specs.Meaning.{cell_of, column_of, database_of}
use Rattle.opener.proofs.FillingLaws.{passes}
use Rattle.opener.proofs.reading.lowest_opener.Given as goal

abbrev pub invariant-loop-i : goal.invariant-loop-i
invariant-loop-i l = (l.i ≤ l.d.fillings) ×
    (let p = passes l.d.filling (database_of (cells_in l.rows.cells.now l.rows.issues.now) l.rows.tables.now) (reached l.levels) (column_of l.k) (cell_of l.v) in
    first_from l.d.fillings p 0 ≡ first_from l.d.fillings p l.i)
