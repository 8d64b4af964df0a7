-- `wurzsige::causes::memory_cause` meets its contract: too few words, the causes of the state and of what is held, words of no design. Assumes nothing.
use native.Mathlib.Omega.{arith}
use mathlib.Core.Path.{sym, ◌∙◌}
use borrow.Author.Tests.{not-false, not-true}
use Rattle.wurzsige.proofs.Memories.{words-cause, catalog-words, few-design, caused-memory, wide-design, fine-memory}
use Rattle.wurzsige.proofs.causes.memory_cause.Goals as goal

pub returns-then-design-lt-DESIGN_WORDS : goal.returns-then-design-lt-DESIGN_WORDS
returns-then-design-lt-DESIGN_WORDS c = (few-design _ c.if-design-lt-DESIGN_WORDS.true, λ z. absurd (omega (arith, z)))

pub returns-then-why-ne0 : goal.returns-then-why-ne0
returns-then-why-ne0 c = let is = c.cause-why.ensures.0 ∙ words-cause _ _ _ _ _ _ c.design_from-d.ensures in
    (caused-memory _ c.if-design-lt-DESIGN_WORDS.false _ is c.if-why-ne0.true, λ z. absurd (c.if-why-ne0.true z))

pub returns-then-not-design_narrow : goal.returns-then-not-design_narrow
returns-then-not-design_narrow c = let is = c.cause-why.ensures.0 ∙ words-cause _ _ _ _ _ _ c.design_from-d.ensures in
    (wide-design _ c.if-design-lt-DESIGN_WORDS.false (sym is ∙ c.if-why-ne0.false) (sym c.design_narrow.ensures ∙ not-true _ c.if-not-design_narrow.true-raw), λ z. absurd (omega (arith, z)))

pub returns : goal.returns
returns c = let is = c.cause-why.ensures.0 ∙ words-cause _ _ _ _ _ _ c.design_from-d.ensures in (
  fine-memory _ c.if-design-lt-DESIGN_WORDS.false (sym is ∙ c.if-why-ne0.false) (sym c.design_narrow.ensures ∙ not-false _ c.if-not-design_narrow.false-raw),
  λ z. catalog-words _ _ _ _ _ c.design_from-d.ensures (c.cause-why.ensures.1 c.if-why-ne0.false),
)
