-- `verdict::words::verdicts` meets its contract. Assumes nothing.
use mathlib.Core.Path.{sym, ◌∙◌}
use Rattle.finite.proofs.Bools.{cond-true, cond-false}
use Rattle.lawful.proofs.DesignLaws.{in-range}
use Rattle.state.proofs.Arrays.{sized}
use Rattle.verdict.specs.Words.{design_cause, words_after}
use Rattle.verdict.proofs.words.verdicts.Goals as goal

pub returns-then-not-lawful_design : goal.returns-then-not-lawful_design
unfolding design_cause words_after
returns-then-not-lawful_design c = let e = sym c.lawful_design.ensures ∙ c.if-not-lawful_design.true in (sym (cond-false _ 0 12 e), sym (cond-false _ _ _ e))

pub words_of-requires : goal.words_of-requires
words_of-requires c = let s = c in in-range s.args.d (sized s.args.d _ s.well_formed.0) (sym c.lawful_design.ensures ∙ c.if-not-lawful_design.false)

pub returns : goal.returns
unfolding design_cause words_after
returns c = let e = sym c.lawful_design.ensures ∙ c.if-not-lawful_design.false in (sym (cond-true _ 0 12 e), c.words_of.ensures ∙ sym (cond-true _ _ _ e))
