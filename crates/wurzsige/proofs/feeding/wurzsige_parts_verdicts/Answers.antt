-- `wurzsige::feeding::wurzsige_parts_verdicts` meets its contract: too few words, words of no design, the design's verdicts. Assumes nothing.
use mathlib.Core.Path.{sym, ◌∙◌}
use borrow.Author.Tests.{not-true, not-false}
use Rattle.wurzsige.proofs.FeedingLaws.{few-verdicts, wide-verdicts, design-verdicts}
use Rattle.wurzsige.proofs.feeding.wurzsige_parts_verdicts.Goals as goal

pub returns-then-design-lt-DESIGN_WORDS : goal.returns-then-design-lt-DESIGN_WORDS
returns-then-design-lt-DESIGN_WORDS c = few-verdicts _ _ c.if-design-lt-DESIGN_WORDS.true

pub returns-then-not-design_narrow : goal.returns-then-not-design_narrow
returns-then-not-design_narrow c = wide-verdicts _ _ c.if-design-lt-DESIGN_WORDS.false (sym c.design_narrow.ensures ∙ not-true _ c.if-not-design_narrow.true-raw)

pub returns : goal.returns
returns c = design-verdicts _ _ c.if-design-lt-DESIGN_WORDS.false (sym c.design_narrow.ensures ∙ not-false _ c.if-not-design_narrow.false-raw) _ c.design_from-d.ensures _ _ c.verdicts.ensures.0 c.verdicts.ensures.1
