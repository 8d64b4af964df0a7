-- `probe::cached::seen` meets its contract: a search among the rows that have the value. Assumes nothing.
use native.Mathlib.Omega.{arith}
use borrow.Author.Tests.{eq-eqb, ne_eqb}
use Rattle.model.specs.Runs.{marked}
use Rattle.catalog.proofs.CatalogLaws.{next-from, next-rises}
use Rattle.probe.proofs.SeekLaws.{seek-end, seek_found, seek-next, seek-start}
use Rattle.probe.proofs.cached.seen.Goals as goal

pub loop-r-init : goal.loop-r-init
loop-r-init c = λ D l v e. seek-start _ _ _ _ _ e

pub bounds-marks-r : goal.bounds-marks-r
bounds-marks-r c = omega (arith, c.requires.table_bound.2, c.loop-r-test.true)

pub returns-then-marks-r-eq1 : goal.returns-then-marks-r-eq1
unfolding marked
returns-then-marks-r-eq1 c = λ D x.
    seek_found D x.links.size_is _ _ _ _ (c.loop-r.invariant D x.links _ (c.find-r.ensures D x.directory)) c.loop-r-test.true (eq-eqb _ _ c.if-marks-r-eq1.true)

pub next_row-r-requires : goal.next_row-r-requires
next_row-r-requires c = (c.loop-r-test.true, c.requires.table_bound.1)

pub loop-r-smaller : goal.loop-r-smaller
loop-r-smaller c = omega (arith, next-rises c.requires.indexed.0 _ _ _ c.loop-r-test.true (c.next_row-r.ensures c.requires.indexed.0 c.requires.indexed.1.links))

pub loop-r-preserved : goal.loop-r-preserved
unfolding marked
loop-r-preserved c = λ D l v e.
    let t = c.loop-r-test.true in
    let w = c.loop-r.invariant D l v e in
    seek-next _ _ _ _ _ w t (ne_eqb _ _ c.if-marks-r-eq1.false) _ (next-from D _ v _ (w.stands.here t) _ (c.next_row-r.ensures D l))

pub returns : goal.returns
returns c = λ D x. seek-end D x.links.size_is _ _ _ _ (c.loop-r.invariant D x.links _ (c.find-r.ensures D x.directory)) c.loop-r-test.false
