-- `catalog::linking::settled` meets its contract, test by test. Assumes nothing.
use mathlib.Core.Path.{sym, ◌∙◌}
use Rattle.std.proofs.Common.{rules}
use borrow.Author.Tests.{tests}
use Rattle.catalog.proofs.LinkLaws.{settled-absent, settled-blank, settled-value}
use Rattle.catalog.proofs.linking.settled.Goals as goal

pub returns-then-not-is_live : goal.returns-then-not-is_live
returns-then-not-is_live c = λ h. settled-absent _ _ _ c.requires.0 (search (rules, tests))

pub returns-then-t-lt8 : goal.returns-then-t-lt8
returns-then-t-lt8 c = λ h. h (search (rules, tests)) c.if-t-lt8.true

pub returns-then-is_blank : goal.returns-then-is_blank
returns-then-is_blank c = λ h. settled-blank _ _ _ c.requires.0 _ c.cell_at-v.ensures (sym c.is_blank.ensures ∙ c.if-is_blank.true)

pub returns : goal.returns
returns c = λ h.
    settled-value _ _ _ c.requires.0 _ c.cell_at-v.ensures (search (rules, tests))
    (sym c.is_blank.ensures ∙ c.if-is_blank.false) _ c.scan.ensures.0
