-- `slice::fetch::fetch_before` meets its contract. Assumes nothing.
use mathlib.Core.Path.{◌∙◌}
use Rattle.slice.proofs.OrderLaws.{before-kind, before-table, before-column, before-end}
use Rattle.slice.proofs.fetch.fetch_before.Goals as goal

pub returns-then-f-g : goal.returns-then-f-g
returns-then-f-g c = before-kind _ _ c.if-f-g.true

pub returns-then-f-g-2 : goal.returns-then-f-g-2
returns-then-f-g-2 c = before-table _ _ c.if-f-g.false c.if-f-g-2.true

pub returns-then-f-g-3 : goal.returns-then-f-g-3
returns-then-f-g-3 c = before-column _ _ c.if-f-g.false c.if-f-g-2.false c.if-f-g-3.true

pub returns : goal.returns
returns c = c.ends_before.ensures ∙ before-end _ _ c.if-f-g.false c.if-f-g-2.false c.if-f-g-3.false
