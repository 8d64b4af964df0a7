-- `writing::lent::write` meets its contract: cause 7 for the rows, cause 12, cause 7 for the written design, then the bytes. Assumes nothing.
use native.Mathlib.Omega.{arith}
use mathlib.Core.Path.{sym, ◌∙◌}
use Rattle.state.proofs.Arrays.{sized}
use Rattle.lawful.proofs.Asked.{sound-range, sound-backed}
use Rattle.guard.proofs.CauseWords.{cause-clear}
use Rattle.writing.proofs.WritingCases.{caused-words, writes-words, cramped-writes, stored-writes}
use Rattle.writing.proofs.lent.write.Goals as goal

pub returns-then-why-ne0 : goal.returns-then-why-ne0
returns-then-why-ne0 c = caused-words _ _ _ _ c.cause-why.ensures.0 c.if-why-ne0.true

pub design_length-n-requires : goal.design_length-n-requires
design_length-n-requires c = let s = c in
    let e = (cause-clear _ _ (sym c.cause-why.ensures.0 ∙ c.if-why-ne0.false)).sound in
    (sound-range _ e (sized s.args.design _ s.well_formed.0), (sound-backed _ e).issued, (sound-backed _ e).members)

pub returns-then-out-n : goal.returns-then-out-n
returns-then-out-n c = let s = c in
    let x = cause-clear _ _ (sym c.cause-why.ensures.0 ∙ c.if-why-ne0.false) in
    writes-words _ _ _ x.words _ _ (cramped-writes _ _ x.sound (omega (arith, c.design_length-n.ensures s.args.rows.now.cells.now)))

pub write_design-requires : goal.write_design-requires
write_design-requires c = let s = c in
    let e = (cause-clear _ _ (sym c.cause-why.ensures.0 ∙ c.if-why-ne0.false)).sound in (
      sound-range _ e (sized s.args.design _ s.well_formed.0),
      sound-backed _ e,
      omega (arith, c.design_length-n.ensures s.args.rows.now.cells.now),
    )

pub returns : goal.returns
returns c = let s = c in
    let x = cause-clear _ _ (sym c.cause-why.ensures.0 ∙ c.if-why-ne0.false) in
    writes-words _ _ _ x.words _ _
    (stored-writes _ _ x.sound (omega (arith, c.design_length-n.ensures s.args.rows.now.cells.now)) _ _
    (c.design_length-n.ensures _) c.write_design.ensures.1)
