-- `slice::fetched::is_fetched` meets its contract. Assumes nothing.
use mathlib.Core.Path.{sym, ◌∙◌}
use Rattle.slice.proofs.SeekLaws.{fetched-hit, fetched-by}
use Rattle.slice.proofs.fetched.is_fetched.Goals as goal

pub returns-then-covers_at : goal.returns-then-covers_at
returns-then-covers_at c = c.if-covers_at.true ∙ sym (fetched-hit _ _ _ _ _ (sym c.covers_at.ensures ∙ c.if-covers_at.true))

pub returns-else-covers_at : goal.returns-else-covers_at
returns-else-covers_at c = fetched-by _ _ c.requires _ _ _ _ _ _ c.value_fetch.ensures c.span_fetch.ensures (c.seek.ensures c.requires) (c.seek-else-covers_at.ensures c.requires) c.covers_at.ensures c.if-covers_at.false c.covers_at-else-covers_at.ensures
