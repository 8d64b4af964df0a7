-- `format::reading::store_issues` meets its contract: the issues passed are stored. Assumes nothing.
use native.Mathlib.Omega.{arith}
use Rattle.finite.proofs.Stores.{tabled_start, tabled-more, tabled-end}
use Rattle.format.proofs.reading.store_issues.Goals as goal

pub loop-c-init : goal.loop-c-init
loop-c-init c = (omega arith, tabled_start _ _ _)

pub row_issue-requires : goal.row_issue-requires
row_issue-requires c = (omega arith, c.requires.1, c.requires.2)

pub loop-c-preserved : goal.loop-c-preserved
loop-c-preserved c = (omega arith, tabled-more _ _ _ _ _ _ c.loop-c.invariant.1 c.row_issue.ensures)

pub returns : goal.returns
returns c = tabled-end _ _ _ _ 8 _ c.loop-c.invariant.0 c.loop-c-test.false c.loop-c.invariant.1
