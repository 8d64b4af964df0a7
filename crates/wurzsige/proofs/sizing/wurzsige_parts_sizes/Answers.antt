-- `wurzsige::sizing::wurzsige_parts_sizes` meets its contract: a cause of the memory, or the three numbers. Assumes nothing.
use mathlib.Core.Path.{sym, ap, ◌∙◌}
use lib.ListN.{length}
use Rattle.state.specs.Lent.{State, sound}
use Rattle.sizes.specs.StepSizes.{words_taken_at, text_taken_at}
use Rattle.wurzsige.proofs.Memories.{own-words-state, own-whole, catalog-words, memory-parts, cause-sound}
use Rattle.wurzsige.proofs.WriteTaking.{written-range, written-backed, written-bytes, caused-sizes, told-sizes}
use Rattle.wurzsige.proofs.sizing.wurzsige_parts_sizes.Goals as goal

pub returns-then-why-ne0 : goal.returns-then-why-ne0
returns-then-why-ne0 c = caused-sizes _ _ _ _ _ c.memory_cause-why.ensures.0 c.if-why-ne0.true

pub design_from-d-requires : goal.design_from-d-requires
design_from-d-requires c = (memory-parts _ (cause-sound _ (sym c.memory_cause-why.ensures.0 ∙ c.if-why-ne0.false))).design

pub first_words-own-requires : goal.first_words-own-requires
first_words-own-requires c = (memory-parts _ (cause-sound _ (sym c.memory_cause-why.ensures.0 ∙ c.if-why-ne0.false))).held

pub design_length-bytes-requires : goal.design_length-bytes-requires
design_length-bytes-requires c = let e = cause-sound _ (sym c.memory_cause-why.ensures.0 ∙ c.if-why-ne0.false) in
    let b = written-backed _ _ _ _ _ _ c.design_from-d.ensures e in
    (written-range _ _ _ _ _ _ c.design_from-d.ensures e, b.issued, b.members)

pub step_sizes_lawful-z-requires : goal.step_sizes_lawful-z-requires
step_sizes_lawful-z-requires c = let e = cause-sound _ (sym c.memory_cause-why.ensures.0 ∙ c.if-why-ne0.false) in (
  ap sound (own-words-state _ _ _ _ _ _ _ c.design_from-d.ensures c.first_words-own.ensures) ∙ (memory-parts _ e).state,
  catalog-words _ _ _ _ _ (sym c.design_from-d.ensures) (c.memory_cause-why.ensures.1 c.if-why-ne0.false),
  own-whole _ _ c.first_words-own.ensures (memory-parts _ e).held_narrow,
)

pub returns : goal.returns
returns c = let s = c in
    let z = sym c.memory_cause-why.ensures.0 ∙ c.if-why-ne0.false in
    let w = own-words-state _ _ _ _ _ _ _ c.design_from-d.ensures c.first_words-own.ensures in
    told-sizes _ _ _ _ z _ _ _
    (c.design_length-bytes.ensures s.args.cells.now ∙ ap length (written-bytes _ _ _ _ _ _ c.design_from-d.ensures (cause-sound _ z)))
    (c.step_sizes_lawful-z.ensures.0 ∙ ap (λ (x : State). words_taken_at x s.args.script.now s.args.at) w)
    (c.step_sizes_lawful-z.ensures.1 ∙ ap (λ (x : State). text_taken_at x s.args.script.now s.args.at) w)
