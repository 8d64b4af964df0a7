-- `slice::rows::row_lack` meets its contract. Assumes nothing.
use Rattle.slice.proofs.LackLaws.{marks-out, marks-in}
use Rattle.slice.proofs.rows.row_lack.Goals as goal

pub returns-then-marks-r-ne1 : goal.returns-then-marks-r-ne1
returns-then-marks-r-ne1 c = λ x. let s = c in marks-out _ _ _ _ s.args.marks.now s.requires.4 c.if-marks-r-ne1.true

pub returns : goal.returns
returns c = λ x. let s = c in marks-in _ _ _ _ s.args.marks.now s.requires.4 c.if-marks-r-ne1.false (c.links_lack.ensures x)
