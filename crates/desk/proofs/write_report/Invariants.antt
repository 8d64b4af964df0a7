-- What the loops of `desk::write_report` keep.
use mathlib.Core.Path.{◌≡◌}
use mathlib.Core.Bool.{true}
use lib.ListN.{length}
use Rattle.state.specs.Cells.{cells_in}
use Rattle.state.specs.HeldWords.{words_held, Whole}
use Rattle.state.specs.Lent.{lent}
use Rattle.state.specs.Meaning.{database_of, scheme_of}
use Rattle.catalog.specs.Catalog.{Catalogued}
use Rattle.script.specs.Step.{outputs}
use Rattle.desk.proofs.TextLaws.{turns}
use Rattle.desk.proofs.PartLaws.{Standing}
use Rattle.desk.proofs.write_report.Given as goal

abbrev pub invariant-loop-output : goal.invariant-loop-output
invariant-loop-output l =
    Standing l.script (lent l.p.design (cells_in l.cells l.issues) l.tables l.marks (words_held l.held)) (outputs l.words l.text) l.p l.out l.done ×
    (l.p.more ≡ true → Catalogued (scheme_of l.p.design) (database_of (cells_in l.cells l.issues) l.tables) l.catalog l.keys) ×
    (length l.cells ≡ 4096) × (length l.issues ≡ 4096) × (length l.tables ≡ 512) × (length l.marks ≡ 512) × (length l.words ≡ 4096) × (length l.text ≡ 16384) × (length l.out ≡ 81920) ×
    Whole l.held

abbrev pub decreases-loop-output : goal.decreases-loop-output
decreases-loop-output l = turns l.script l.p
