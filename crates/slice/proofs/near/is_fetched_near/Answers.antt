-- `slice::near::is_fetched_near` meets its contract. Assumes nothing.
use mathlib.Core.Path.{sym, ◌∙◌}
use Rattle.slice.proofs.SeekLaws.{fetched-hit, fetched-by}
use Rattle.slice.proofs.near.is_fetched_near.Goals as goal

pub returns-then-covers_at : goal.returns-then-covers_at
returns-then-covers_at c = sym (fetched-hit _ _ _ _ _ (sym c.covers_at.ensures ∙ c.if-covers_at.true))

pub returns-then-covers_at-2 : goal.returns-then-covers_at-2
returns-then-covers_at-2 c = sym (fetched-hit _ _ _ _ _ (sym c.covers_at-2.ensures ∙ c.if-covers_at-2.true))

pub returns-then-covers_at-3 : goal.returns-then-covers_at-3
returns-then-covers_at-3 c = sym (fetched-hit _ _ _ _ _ (sym c.covers_at-3.ensures ∙ c.if-covers_at-3.true))

pub returns-then-covers_at-4 : goal.returns-then-covers_at-4
returns-then-covers_at-4 c = c.if-covers_at-4.true ∙ sym (fetched-hit _ _ _ _ _ (sym c.covers_at-4.ensures ∙ c.if-covers_at-4.true))

pub returns-else-covers_at-4 : goal.returns-else-covers_at-4
returns-else-covers_at-4 c = let o = c.requires.0 in
    fetched-by _ _ o _ _ _ _ _ _ c.value_fetch.ensures c.span_fetch.ensures (c.seek-a.ensures o) (c.seek.ensures o) c.covers_at-4.ensures c.if-covers_at-4.false c.covers_at-else-covers_at-4.ensures
