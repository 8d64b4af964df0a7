-- `slice::rows::rows_lack` meets its contract. Assumes nothing.
use Rattle.model.proofs.MissingLoops.{lack-start}
use Rattle.slice.proofs.LackLaws.{leaves, goes_on, ends}
use Rattle.slice.proofs.NearLaws.{ends-made}
use native.Mathlib.Omega.{arith}
use Rattle.slice.proofs.rows.rows_lack.Goals as goal

pub loop-r-init : goal.loop-r-init
loop-r-init c = (omega arith, λ x. lack-start _)

pub row_lack-requires : goal.row_lack-requires
row_lack-requires c = (c.requires.0, c.requires.1, c.requires.2, c.requires.3, c.loop-r-test.true, ends-made _ _ c.sole_targets-soles.ensures)

pub returns-in-Some : goal.returns-in-Some
returns-in-Some c = λ x. leaves _ _ _ c.loop-r-test.true (c.loop-r.invariant.1 x) (c.in-Some.ensures x)

pub loop-r-preserved : goal.loop-r-preserved
loop-r-preserved c = (omega arith, λ x. goes_on _ _ (c.loop-r.invariant.1 x) (c.in_default.ensures x))

pub returns : goal.returns
returns c = λ x. ends _ _ _ c.loop-r.invariant.0 c.loop-r-test.false (c.loop-r.invariant.1 x)
