-- `probe::counting::rows_with` meets its contract: a count among the rows that have the value. Assumes nothing.
use native.Mathlib.Omega.{arith}
use Rattle.catalog.proofs.CatalogLaws.{next-from, next-rises}
use Rattle.probe.proofs.CountLaws.{counting-end, counting-few, counting-hit, counting-miss, counting-start, mark-cached, mark-other}
use Rattle.probe.proofs.counting.rows_with.Goals as goal
use Rattle.probe.proofs.counting.rows_with.Goals.{then-marks-r-eq1, else-marks-r-eq1}

pub loop-r-init : goal.loop-r-init
loop-r-init c = λ D l v e. counting-start _ _ _ _ _ e

pub bounds-marks-r : goal.bounds-marks-r
bounds-marks-r c = omega (arith, c.requires.table_bound.2, c.loop-r-test.true)

pub overflow_add-n : goal.overflow_add-n
overflow_add-n c = omega (arith, counting-few _ _ _ _ _ _ (c.loop-r.invariant c.requires.indexed.0 c.requires.indexed.1.links _ (c.find-r.ensures c.requires.indexed.0 c.requires.indexed.1.directory)))

pub next_row-r-requires : goal.next_row-r-requires
next_row-r-requires c = (c.loop-r-test.true, c.requires.table_bound.1)

pub loop-r-smaller : goal.loop-r-smaller
loop-r-smaller c = omega (arith, next-rises c.requires.indexed.0 _ _ _ c.loop-r-test.true (c.next_row-r.ensures c.requires.indexed.0 c.requires.indexed.1.links))

pub loop-r-preserved : goal.loop-r-preserved
loop-r-preserved c = λ D l v e.
    let t = c.loop-r-test.true in
    let w = c.loop-r.invariant D l v e in
    let f = next-from D _ v _ (w.stands.here t) _ (c.next_row-r.ensures D l) in
    elim c.if-marks-r-eq1.branch [
      | then-marks-r-eq1 a ↦ counting-hit _ _ _ _ _ _ w t _ f _ a.n-is (mark-cached _ _ (omega (arith, a.if-marks-r-eq1.true)))
      | else-marks-r-eq1 a ↦ counting-miss _ _ _ _ _ _ w t _ f _ a.n-is (mark-other _ _ a.if-marks-r-eq1.false)
    ]

pub returns : goal.returns
returns c = λ D x. counting-end D x.links.size_is _ _ _ _ _ (c.loop-r.invariant D x.links _ (c.find-r.ensures D x.directory)) c.loop-r-test.false
