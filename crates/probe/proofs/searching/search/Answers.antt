-- `probe::searching::search` meets its contract: the ground, and behind a yes the count. Assumes nothing.
use mathlib.Core.Path.{◌∙◌}
use Rattle.model.proofs.CountedRows.{rows-behind-yes, rows-behind-sent}
use Rattle.probe.proofs.GroundLaws.{rows-front}
use Rattle.probe.proofs.searching.search.Goals as goal

pub returns-then-g-eq0 : goal.returns-then-g-eq0
returns-then-g-eq0 c = λ D x. (c.ground-g.ensures D x, rows-behind-sent _ _ _ _ _ c.if-g-eq0.true)

pub returns : goal.returns
returns c = λ D x.
    (c.ground-g.ensures D x, c.rows_with-n.ensures D x ∙ rows-front D x.links.size_is _ _ _ ∙ rows-behind-yes _ _ _ _ _ c.if-g-eq0.false)
