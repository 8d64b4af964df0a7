-- `slice::accepted::is_behind` meets its contract. Assumes nothing.
use mathlib.Core.Path.{ap₂, ◌∙◌}
use borrow.Author.Tests.{eq-eqb}
use Rattle.slice.specs.Fetches.{fetch_before}
use Rattle.slice.proofs.AcceptedLaws.{behind-first, behind-next}
use Rattle.slice.proofs.accepted.is_behind.Goals as goal

pub returns-then-i-eq0 : goal.returns-then-i-eq0
returns-then-i-eq0 c = eq-eqb _ _ c.if-i-eq0.true ∙ behind-first _ _ c.if-i-eq0.true

pub returns-else-i-eq0 : goal.returns-else-i-eq0
returns-else-i-eq0 c = behind-next _ _ c.if-i-eq0.false (c.fetch_before.ensures ∙ ap₂ fetch_before c.fetch_at.ensures c.fetch_at-else-i-eq0.ensures)
