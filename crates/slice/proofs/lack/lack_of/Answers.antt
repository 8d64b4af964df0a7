-- `slice::lack::lack_of` meets its contract. Assumes nothing.
use mathlib.Core.Path.{ap, ◌∙◌}
use Rattle.slice.specs.Fetches.{as_lack}
use Rattle.slice.proofs.LackLaws.{value-lack}
use Rattle.slice.proofs.lack.lack_of.Goals as goal

pub returns : goal.returns
returns c = λ D x. ap as_lack c.then_some.ensures ∙ value-lack _ _ _ _ _ _ _ (c.is_open.ensures D x) c.value_fetch.ensures
