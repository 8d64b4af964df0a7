-- `run::runs::run_catalogued` meets its contract: the design is read with its catalog, and behind an accepted one the steps are done. Assumes nothing.
use Prim.Native.Nat.{ℕ}
use native.Mathlib.Omega.{arith}
use mathlib.Core.Path.{◌≡◌}
use Rattle.state.specs.Cells.{cells_in}
use Rattle.state.proofs.LentWords.{zero-whole}
use Rattle.script.specs.Step.{outputs}
use Rattle.script.specs.JustRead.{buffers}
use Rattle.run.proofs.RanLaws.{refused-ran, accepted-ran}
use Rattle.script.proofs.JustRead.{start-sound}
use Rattle.run.proofs.runs.run_catalogued.Goals as goal

pub returns-in_default : goal.returns-in_default
returns-in_default c = record { ran = refused-ran _ _ _ _ _ _ c.read_catalogued-reading.ensures.leaves _ _ _ c.in_default.is; by_index = λ i e. absurd (let z : ◌≡◌ {A = ℕ} 0 1 = cc (e, c.in_default.is) in omega arith) }

pub run_lawful-requires : goal.run_lawful-requires
run_lawful-requires c = let a = c.args in (
  start-sound _ (buffers (cells_in a.cells.now a.issues.now) a.tables.now a.marks.now (outputs a.words.now a.text.now)) _ _ _ _
      c.read_catalogued-reading.ensures.leaves (record { at = λ j. omega (arith, c.type_inv.script j) })
      (record { number = λ j. omega (arith, c.slice_known-7-1.given j); issue = λ j. omega (arith, c.slice_known-8-1.given j) }) _ c.in-Accepted.is,
  c.read_catalogued-reading.ensures.opens _ c.in-Accepted.is,
  zero-whole,
)

pub returns : goal.returns
returns c = record {
  ran = accepted-ran _ _ _ _ _ _ c.read_catalogued-reading.ensures.leaves (record { at = λ j. omega (arith, c.type_inv.script j) })
      (record { number = λ j. omega (arith, c.slice_known-7-1.given j); issue = λ j. omega (arith, c.slice_known-8-1.given j) }) _ c.in-Accepted.is _ _ c.run_lawful.ensures.catalogued.1 _ c.run_lawful.ensures.text_after;
  by_index = λ i e. c.run_lawful.ensures.catalogued.0;
}
