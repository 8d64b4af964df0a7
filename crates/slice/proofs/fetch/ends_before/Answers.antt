-- `slice::fetch::ends_before` meets its contract. Assumes nothing.
use Rattle.slice.proofs.OrderLaws.{end-span, end-number, end-issue}
use Rattle.slice.proofs.fetch.ends_before.Goals as goal

pub returns-then-f-ne0 : goal.returns-then-f-ne0
returns-then-f-ne0 c = end-span _ _ c.if-f-ne0.true

pub returns-then-f-g : goal.returns-then-f-g
returns-then-f-g c = end-number _ _ c.if-f-ne0.false c.if-f-g.true

pub returns : goal.returns
returns c = end-issue _ _ c.if-f-ne0.false c.if-f-g.false
