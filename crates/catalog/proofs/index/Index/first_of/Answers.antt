-- `catalog::index::Index::first_of` meets its contract: a value of another issue no row is asked for. Assumes nothing.
use mathlib.Core.Path.{◌∙◌}
use Rattle.catalog.proofs.SpanLaws.{none_first, some_first}
use Rattle.catalog.proofs.index.Index.first_of.Goals as goal

pub returns-then-self-i-ne0 : goal.returns-then-self-i-ne0
returns-then-self-i-ne0 c = λ D k f. none_first D k _ c.if-self-i-ne0.true

pub returns : goal.returns
returns c = λ D k f. some_first D k _ _ c.if-self-i-ne0.false (c.head_at.ensures ∙ f)
