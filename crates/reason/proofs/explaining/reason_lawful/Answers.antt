-- `reason::explaining::reason_lawful` meets its contract: the causes in their order, then the sentence. Assumes nothing.
use native.Mathlib.Omega.{arith}
use mathlib.Core.Path.{sym, ◌∙◌}
use borrow.Author.Tests.{not-true, not-false}
use Rattle.state.proofs.Arrays.{sized}
use Rattle.state.proofs.HeldWords.{words-sized}
use Rattle.lawful.proofs.Asked.{sound-range, sound-backed, sound-marks, sound-bounded}
use Rattle.reason.proofs.Replying.{marked-cached, reply-past, reply-unnamed, reply-absent}
use Rattle.reason.proofs.explaining.reason_lawful.Goals as goal

pub returns-then-r-ge-ROWS : goal.returns-then-r-ge-ROWS
returns-then-r-ge-ROWS c = reply-past _ c.requires.0 _ _ c.if-r-ge-ROWS.true

pub is_live-requires : goal.is_live-requires
is_live-requires c = (c.if-r-ge-ROWS.false, (sound-backed _ c.requires.0).members)

pub returns-then-not-is_live : goal.returns-then-not-is_live
returns-then-not-is_live c = reply-unnamed _ c.requires.0 _ _ (sym (c.is_live.ensures _) ∙ not-true _ c.if-not-is_live.true-raw)

pub bounds-marks-r : goal.bounds-marks-r
bounds-marks-r c = omega (arith, sound-marks _ c.requires.0, c.if-r-ge-ROWS.false)

pub returns-then-marks-r-ne1 : goal.returns-then-marks-r-ne1
returns-then-marks-r-ne1 c = reply-absent _ c.requires.0 _ _ c.if-r-ge-ROWS.false (sym (c.is_live.ensures _) ∙ not-false _ c.if-not-is_live.false-raw) c.if-marks-r-ne1.true

pub explained-requires : goal.explained-requires
explained-requires c = let s = c in
    let e = s.requires.0 in record {
      r_bound = (c.if-r-ge-ROWS.false, sound-range _ e (sized s.args.design _ s.well_formed.0), sound-backed _ e, sound-bounded _ e (words-sized s.args.held.now));
      catalogued = (s.requires.1, marked-cached _ e _ c.if-r-ge-ROWS.false c.if-marks-r-ne1.false);
    }

pub returns : goal.returns
returns c = c.explained.ensures _ c.requires.0 (sym (c.is_live.ensures _) ∙ not-false _ c.if-not-is_live.false-raw) c.if-marks-r-ne1.false
