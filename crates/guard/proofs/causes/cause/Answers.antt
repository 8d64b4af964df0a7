-- `guard::causes::cause` meets its contract: cause 7, then cause 12. Assumes nothing.
use native.Mathlib.Omega.{arith}
use mathlib.Core.Path.{sym, ap, ◌∙◌}
use mathlib.Core.Bool.{not}
use Rattle.finite.proofs.Bools.{cond-true, cond-false}
use Rattle.state.specs.HeldWords.{words_held}
use Rattle.lawful.proofs.Asked.{long-asked}
use Rattle.guard.proofs.CauseWords.{cause-few, cause-short, cause-long, first-lawful}
use Rattle.guard.proofs.causes.cause.Goals as goal

pub returns-then-held-lt-HELD_WORDS : goal.returns-then-held-lt-HELD_WORDS
returns-then-held-lt-HELD_WORDS c = (cause-few _ _ c.if-held-lt-HELD_WORDS.true, λ z. absurd (omega (arith, z)))

pub returns-then-not-is_long_enough : goal.returns-then-not-is_long_enough
returns-then-not-is_long_enough c = (cause-short _ _ c.if-held-lt-HELD_WORDS.false (sym (c.is_long_enough.ensures _ _) ∙ c.if-not-is_long_enough.true), λ z. absurd (omega (arith, z)))

pub is_lawful_catalog-requires : goal.is_lawful_catalog-requires
is_lawful_catalog-requires c = let s = c in
    long-asked _ (sym (c.is_long_enough.ensures s.args.design (words_held s.args.held.now)) ∙ c.if-not-is_long_enough.false)

pub returns-then-not-is_lawful_catalog : goal.returns-then-not-is_lawful_catalog
returns-then-not-is_lawful_catalog c = (
  sym (cause-long _ _ c.if-held-lt-HELD_WORDS.false (sym (c.is_long_enough.ensures _ _) ∙ c.if-not-is_long_enough.false) ∙
      cond-true _ _ _ (ap not (sym (first-lawful _ _ _ _ _ _ c.first_words-own.ensures) ∙ sym c.is_lawful_catalog.ensures.0 ∙ c.if-not-is_lawful_catalog.true))),
  λ z. absurd (omega (arith, z)),
)

pub returns : goal.returns
returns c = let is = c.if-not-is_lawful_catalog.false in (
  sym (cause-long _ _ c.if-held-lt-HELD_WORDS.false (sym (c.is_long_enough.ensures _ _) ∙ c.if-not-is_long_enough.false) ∙
      cond-false _ _ _ (ap not (sym (first-lawful _ _ _ _ _ _ c.first_words-own.ensures) ∙ sym c.is_lawful_catalog.ensures.0 ∙ is))),
  λ z. c.is_lawful_catalog.ensures.1 is,
)
