-- `desk::write_report` meets its contract: each part that is handed over is what the report has behind the parts before it, and where all went well the
-- parts are the whole report. The invariant says where the buffer's part stands; the measure is how many commands can follow. Assumes nothing.
use native.Mathlib.Omega.{arith}
use mathlib.Core.Path.{refl, sym}
use borrow.Author.Tests.{not-true, not-false}
use lib.ListN.{length-take}
use Rattle.state.proofs.LentWords.{zero-whole, zero-none}
use Rattle.desk.specs.Parts.{lent_buffers}
use Rattle.desk.proofs.TextLaws.{turns-less}
use Rattle.desk.proofs.PartLaws.{standing-first, stands, standing-next, handed-all, handed-some}
use Rattle.desk.proofs.write_report.Goals as goal

pub loop-output-init : goal.loop-output-init
loop-output-init c = (
  standing-first _ _ _ _ _ _ (c.begin-p.ensures.begins lent_buffers.outputs) (omega (arith, c.out-2-1.given)) c.requires _ zero-none,
  c.begin-p.ensures.catalogued,
  omega (arith, c.cells-2-1.given),
  omega (arith, c.issues-2-1.given),
  omega (arith, c.tables-2-1.given),
  omega (arith, c.marks-2-1.given),
  refl,
  refl,
  omega (arith, c.out-2-1.given),
  zero-whole,
)

pub slice_bounds-out-end : goal.slice_bounds-out-end
slice_bounds-out-end c = omega (arith, c.loop-output.invariant.0.part.fits, c.loop-output.invariant.8)

pub slice_bounds-write_part-end : goal.slice_bounds-write_part-end
slice_bounds-write_part-end c = let j = c.loop-output in omega (arith, length-take j.p.end j.out, j.invariant.0.part.fits)

pub write_part-handed-requires : goal.write_part-handed-requires
write_part-handed-requires c = let h = c.loop-output.invariant.0 in record { stands = stands _ _ _ _ _ _ h; done_bound = omega (arith, h.small) }

pub returns-then-not-handed : goal.returns-then-not-handed
returns-then-not-handed c = let h = c.write_part-handed in handed-some _ _ _ _ _ _ c.loop-output.invariant.0 _ h.ensures (not-true h.result.well c.if-not-handed.true)

pub returns-then-not-p : goal.returns-then-not-p
returns-then-not-p c = let j = c.loop-output in
    let h = c.write_part-handed in
    handed-all _ _ _ _ _ _ j.invariant.0 _ h.ensures (not-false h.result.well c.if-not-handed.false) (not-true j.p.more c.if-not-p.true)

pub slice_bounds-next_part-end : goal.slice_bounds-next_part-end
slice_bounds-next_part-end c = sym c.loop-output.invariant.2

pub slice_bounds-next_part-end-in-loop-output : goal.slice_bounds-next_part-end-in-loop-output
slice_bounds-next_part-end-in-loop-output c = sym c.loop-output.invariant.3

pub slice_bounds-next_part-end-in-loop-output-2 : goal.slice_bounds-next_part-end-in-loop-output-2
slice_bounds-next_part-end-in-loop-output-2 c = sym c.loop-output.invariant.4

pub slice_bounds-next_part-end-in-loop-output-3 : goal.slice_bounds-next_part-end-in-loop-output-3
slice_bounds-next_part-end-in-loop-output-3 c = sym c.loop-output.invariant.5

pub slice_bounds-next_part-end-in-loop-output-4 : goal.slice_bounds-next_part-end-in-loop-output-4
slice_bounds-next_part-end-in-loop-output-4 c = sym c.loop-output.invariant.6

pub slice_bounds-next_part-end-in-loop-output-5 : goal.slice_bounds-next_part-end-in-loop-output-5
slice_bounds-next_part-end-in-loop-output-5 c = sym c.loop-output.invariant.7

pub slice_bounds-next_part-end-in-loop-output-6 : goal.slice_bounds-next_part-end-in-loop-output-6
slice_bounds-next_part-end-in-loop-output-6 c = sym c.loop-output.invariant.8

pub next_part-q-requires : goal.next_part-q-requires
next_part-q-requires c = let j = c.loop-output in
    let more = not-false j.p.more c.if-not-p.false in
    record { next_ready = (j.invariant.0.ready more, j.invariant.1 more, j.invariant.9); words_len_bound = (omega (arith, j.invariant.6), omega (arith, j.invariant.7), j.invariant.8) }

pub loop-output-smaller : goal.loop-output-smaller
loop-output-smaller c = let j = c.loop-output in
    let f = c.next_part-q.ensures.continues in
    turns-less _ _ _ (not-false j.p.more c.if-not-p.false) (λ k. (f.on k, (f.ready k).at))

pub loop-output-preserved : goal.loop-output-preserved
loop-output-preserved c = let h = c.write_part-handed in
    let j = c.loop-output in
    let more = not-false j.p.more c.if-not-p.false in (
      standing-next _ _ _ _ _ _ j.invariant.0 _ h.ensures (not-false h.result.well c.if-not-handed.false) more _ _ _ _ c.next_part-q.ensures.continues
          (omega (arith, j.invariant.8, c.out-in-loop-output-3-1.given)),
      λ e. c.next_part-q.ensures.catalogued.0,
      omega (arith, j.invariant.2, c.cells-in-loop-output-2-1.given),
      omega (arith, j.invariant.3, c.issues-in-loop-output-2-1.given),
      omega (arith, j.invariant.4, c.tables-in-loop-output-2-1.given),
      omega (arith, j.invariant.5, c.marks-in-loop-output-2-1.given),
      omega (arith, j.invariant.6, c.words-in-loop-output-1.given),
      omega (arith, j.invariant.7, c.text-in-loop-output-1.given),
      omega (arith, j.invariant.8, c.out-in-loop-output-3-1.given),
      c.next_part-q.ensures.catalogued.1,
    )
