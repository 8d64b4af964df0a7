-- `slice::near::is_open_near` meets its contract. Assumes nothing.
use mathlib.Core.Path.{sym, ◌∙◌}
use Rattle.slice.proofs.LackLaws.{only-known, fetched-known, open-blank, open_full}
use Rattle.slice.proofs.near.is_open_near.Goals as goal

pub returns-then-is_blank : goal.returns-then-is_blank
returns-then-is_blank c = λ S D x. open-blank _ _ _ _ _ (sym c.is_blank.ensures ∙ c.if-is_blank.true)

pub returns-then-only : goal.returns-then-only
returns-then-only c = λ S D x. open_full S D _ _ _ (sym c.is_blank.ensures ∙ c.if-is_blank.false) (only-known S D _ _ _ (sym x ∙ c.if-only.true))

pub returns : goal.returns
returns c = λ S D x. open_full S D _ _ _ (sym c.is_blank.ensures ∙ c.if-is_blank.false) (fetched-known S D _ _ _ (sym x ∙ c.if-only.false) c.is_fetched_near.ensures)
