-- What the loops of `reason::linking::find_links` keep.
use Rattle.state.specs.Cells.{cells_in}
use Rattle.state.specs.Meaning.{database_of, scheme_of}
use Rattle.reason.proofs.LinkLaws.{Noted}
use Rattle.reason.proofs.linking.find_links.Given as goal

abbrev pub invariant-loop-k : goal.invariant-loop-k
invariant-loop-k l = Noted (scheme_of l.d) (database_of (cells_in l.rows.cells.now l.rows.issues.now) l.rows.tables.now) l.levels l.n l.r l.by l.from l.k l.s
