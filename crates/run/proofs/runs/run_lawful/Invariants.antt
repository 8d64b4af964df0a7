-- What the loops of `run::runs::run_lawful` keep.
use Prim.Native.Nat.{◌-◌}
use mathlib.Core.Path.{◌≡◌}
use mathlib.Core.Bool.{true}
use lib.ListN.{length}
use Rattle.state.specs.Cells.{cells_in}
use Rattle.state.specs.HeldWords.{words_held, Whole}
use Rattle.state.specs.Meaning.{database_of, scheme_of}
use Rattle.state.specs.Lent.{lent, sound}
use Rattle.catalog.specs.Catalog.{Catalogued}
use Rattle.script.specs.Step.{outputs}
use Rattle.run.specs.Runs.{left_from}
use Rattle.run.proofs.runs.run_lawful.Given as goal

abbrev pub invariant-loop-i : goal.invariant-loop-i
invariant-loop-i l = (length l.cells ≡ length l.initial.cells) × (length l.issues ≡ length l.initial.issues) × (length l.tables ≡ length l.initial.tables) × (length l.marks ≡ length l.initial.marks) ×
    (length l.words ≡ length l.initial.words) × (length l.text ≡ length l.initial.text) × (sound (lent l.design (cells_in l.cells l.issues) l.tables l.marks (words_held l.held)) ≡ true) ×
    (left_from (length l.script) l.script (lent l.design (cells_in l.initial.cells l.initial.issues) l.initial.tables l.initial.marks (words_held l.initial.held)) (outputs l.initial.words l.initial.text) l.initial.i ≡
    left_from (length l.script) l.script (lent l.design (cells_in l.cells l.issues) l.tables l.marks (words_held l.held)) (outputs l.words l.text) l.i) ×
    Catalogued (scheme_of l.design) (database_of (cells_in l.cells l.issues) l.tables) l.catalog l.keys × Whole l.held

abbrev pub decreases-loop-i : goal.decreases-loop-i
decreases-loop-i l = length l.script - l.i
