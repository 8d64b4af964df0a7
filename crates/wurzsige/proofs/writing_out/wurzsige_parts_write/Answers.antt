-- `wurzsige::writing_out::wurzsige_parts_write` meets its contract: a cause of the memory, too few bytes, the bytes stored. Assumes nothing.
use native.Mathlib.Omega.{arith}
use mathlib.Core.Path.{sym, ap, ◌∙◌}
use lib.ListN.{length}
use lib.Seq.{sets}
use Rattle.wurzsige.proofs.Memories.{memory-parts, cause-sound}
use Rattle.wurzsige.proofs.WriteTaking.{caused-written, cramped-written, stored-written, written-range, written-backed, written-bytes}
use Rattle.wurzsige.proofs.writing_out.wurzsige_parts_write.Goals as goal

pub returns-then-why-ne0 : goal.returns-then-why-ne0
returns-then-why-ne0 c = caused-written _ _ _ _ c.memory_cause-why.ensures.0 c.if-why-ne0.true

pub design_from-d-requires : goal.design_from-d-requires
design_from-d-requires c = (memory-parts _ (cause-sound _ (sym c.memory_cause-why.ensures.0 ∙ c.if-why-ne0.false))).design

pub design_length-n-requires : goal.design_length-n-requires
design_length-n-requires c = let e = cause-sound _ (sym c.memory_cause-why.ensures.0 ∙ c.if-why-ne0.false) in
    let b = written-backed _ _ _ _ _ _ c.design_from-d.ensures e in
    (written-range _ _ _ _ _ _ c.design_from-d.ensures e, b.issued, b.members)

pub returns-then-out-n : goal.returns-then-out-n
returns-then-out-n c = let e = cause-sound _ (sym c.memory_cause-why.ensures.0 ∙ c.if-why-ne0.false) in
    cramped-written _ _ _ e (omega (arith, c.design_length-n.ensures c.args.cells.now, ap length (written-bytes _ _ _ _ _ _ c.design_from-d.ensures e)))

pub write_design-requires : goal.write_design-requires
write_design-requires c = let e = cause-sound _ (sym c.memory_cause-why.ensures.0 ∙ c.if-why-ne0.false) in (
  written-range _ _ _ _ _ _ c.design_from-d.ensures e,
  written-backed _ _ _ _ _ _ c.design_from-d.ensures e,
  omega (arith, c.design_length-n.ensures c.args.cells.now),
)

pub returns : goal.returns
returns c = let e = cause-sound _ (sym c.memory_cause-why.ensures.0 ∙ c.if-why-ne0.false) in
    let b = written-bytes _ _ _ _ _ _ c.design_from-d.ensures e in
    let n = c.design_length-n.ensures c.args.cells.now in
    stored-written _ _ _ e (omega (arith, n, ap length b)) _ _ (c.write_design.ensures.1 ∙ ap (sets c.args.out.now 0) b) (n ∙ ap length b)
