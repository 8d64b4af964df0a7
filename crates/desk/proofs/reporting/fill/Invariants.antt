-- What the loops of `desk::reporting::fill` keep.
use Prim.Native.Nat.{◌≤◌, ◌<◌}
use mathlib.Core.Path.{◌≡◌}
use mathlib.Core.Bool.{true}
use mathlib.Core.Logic.{◌⊎◌}
use lib.ListN.{length}
use Rattle.state.specs.Cells.{cells_in}
use Rattle.state.specs.HeldWords.{words_held, Whole}
use Rattle.state.specs.Lent.{lent}
use Rattle.state.specs.Meaning.{database_of, scheme_of}
use Rattle.catalog.specs.Catalog.{Catalogued}
use Rattle.script.specs.Step.{outputs}
use Rattle.desk.specs.Printed.{Printed}
use Rattle.desk.proofs.TextLaws.{turns}
use Rattle.desk.proofs.reporting.fill.Given as goal

abbrev pub invariant-loop-p : goal.invariant-loop-p
invariant-loop-p l = Printed l.script (lent l.initial.p.design (cells_in l.initial.cells l.initial.issues) l.initial.tables l.initial.marks (words_held l.initial.held)) (outputs l.initial.words l.initial.text) l.initial.p l.initial.out l.out
    (lent l.p.design (cells_in l.cells l.issues) l.tables l.marks (words_held l.held)) (outputs l.words l.text) l.p ×
    (l.p.more ≡ true → (l.p.at < length l.script) × (l.p.number ≤ l.p.at)) × (l.p.more ≡ true → (l.initial.p.at < l.p.at) ⊎ ((l.p.at ≡ l.initial.p.at) × (l.p.end ≤ 16384))) ×
    (l.p.end ≤ 78215) × (length l.words ≤ 4096) × (length l.text ≤ 16384) × (length l.out ≡ 81920) ×
    (Catalogued (scheme_of l.p.design) (database_of (cells_in l.cells l.issues) l.tables) l.catalog l.keys × Whole l.held)

abbrev pub decreases-loop-p : goal.decreases-loop-p
decreases-loop-p l = turns l.script l.p
