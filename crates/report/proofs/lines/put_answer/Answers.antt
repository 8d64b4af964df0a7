-- `report::lines::put_answer` meets its contract: word and numbers, or the text. Assumes nothing.
use native.Mathlib.Omega.{arith}
use Rattle.state.proofs.AnswerLaws.{shows-few}
use Rattle.report.proofs.Answers.{without-text, with-text}
use Rattle.report.proofs.lines.put_answer.Goals as goal

pub put_shown-requires : goal.put_shown-requires
put_shown-requires c = let s = c.show-s in
    (shows-few s.result c.args.answer s.ensures, omega (arith, c.requires))

pub returns-then-s-ne17 : goal.returns-then-s-ne17
returns-then-s-ne17 c = let s = c.show-s in without-text s.result c.args.answer _ _ s.ensures _ _ _ _ c.if-s-ne17.true c.put_shown.ensures

pub returns : goal.returns
returns c = let s = c.show-s in with-text s.result c.args.answer _ _ s.ensures _ _ _ _ c.if-s-ne17.false c.put_text.ensures
