-- `catalog::scanning::scan` meets its contract. Assumes nothing.
use Prim.Native.Nat.{◌-◌}
use native.Mathlib.Omega.{arith}
use mathlib.Core.Path.{refl, ◌∙◌}
use Rattle.std.proofs.Common.{rules}
use Rattle.std.proofs.lemmas.Iterator.{YieldsList-from_range}
use borrow.Author.Tests.{tests}
use Rattle.finite.proofs.First.{first-from}
use Rattle.finite.proofs.Ranges.{first_in-range}
use Rattle.model.specs.Database.{has}
use Rattle.state.specs.Cells.{cells_in}
use Rattle.state.specs.Meaning.{cell_of, column_of, database_of}
use Rattle.catalog.proofs.scanning.scan.Goals as goal

pub returns : goal.returns
returns c = let a = c.args in
    let i = a.from in
    let p = has (database_of (cells_in a.rows.now.cells.now a.rows.now.issues.now) a.rows.now.tables.now) (column_of a.k) (cell_of a.v) in
    let e = c.unwrap_or.ensures ∙ first_in-range 512 p i _ _ c.find.result c.find.ensures.ran (YieldsList-from_range i 512 (512 - i) (cc) refl) (λ x b q k. search (rules, tests)) in
    (e, omega (arith, e, (first-from 512 p i c.requires.0).bound))
