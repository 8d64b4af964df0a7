-- `load::reached::Load::walk_once` meets its contract: a value that has been walked adds nothing, and one that has not is walked. Assumes nothing.
use native.Mathlib.Omega.{arith}
use Rattle.load.proofs.WalkedLaws.{walk-again, walk-empty, walk-marked}
use Rattle.load.proofs.reached.Load.walk_once.Goals as goal

pub returns-then-from-ge-ROWS : goal.returns-then-from-ge-ROWS
returns-then-from-ge-ROWS c = λ D l b w. (walk-empty _ _ _ _ _ _ _ c.if-from-ge-ROWS.true c.args.self.now.long c.args.self.now.listed, w)

pub returns-then-walked-at : goal.returns-then-walked-at
returns-then-walked-at c = λ D l b w.
    (walk-again _ _ _ _ _ _ _ c.if-from-ge-ROWS.false c.requires.place_bound.0 _ w c.if-walked-at.true c.args.self.now.long c.args.self.now.listed, w)

pub returns : goal.returns
returns c = λ D l b w.
    let p = c.requires.place_bound in
    let u = c.walk.ensures D l b in
    (u, walk-marked _ _ _ _ _ _ _ c.if-from-ge-ROWS.false p.0 _ w _ _ _ (omega (arith, p.1)) u)
