-- `slice::fetched::covers_value` meets its contract. Assumes nothing.
use mathlib.Core.Path.{◌∙◌, sym}
use Rattle.slice.proofs.CoverLaws.{cover-table, cover-place, cover-value, cover-span}
use Rattle.slice.proofs.fetched.covers_value.Goals as goal

pub returns-then-f-from : goal.returns-then-f-from
returns-then-f-from c = cover-table _ _ _ (λ e. c.if-f-from.true (e ∙ sym c.from.ensures))

pub returns-then-f-from-2 : goal.returns-then-f-from-2
returns-then-f-from-2 c = cover-place _ _ _ (c.if-f-from.false ∙ c.from.ensures) (λ e. c.if-f-from-2.true (e ∙ sym c.from-2.ensures))

pub returns-then-f-eq0 : goal.returns-then-f-eq0
returns-then-f-eq0 c = cover-value _ _ _ (c.if-f-from.false ∙ c.from.ensures) (c.if-f-from-2.false ∙ c.from-2.ensures) c.if-f-eq0.true c.is_value.ensures

pub returns : goal.returns
returns c = cover-span _ _ _ (c.if-f-from.false ∙ c.from.ensures) (c.if-f-from-2.false ∙ c.from-2.ensures) c.if-f-eq0.false c.is_between.ensures
