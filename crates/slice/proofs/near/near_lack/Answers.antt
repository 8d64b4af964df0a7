-- `slice::near::near_lack` meets its contract. Assumes nothing.
use mathlib.Core.Path.{ap, ◌∙◌}
use Rattle.slice.specs.Fetches.{as_lack}
use Rattle.slice.proofs.LackLaws.{value-lack}
use Rattle.slice.proofs.near.near_lack.Goals as goal

pub returns : goal.returns
returns c = λ S D x. ap as_lack c.then_some.ensures ∙ value-lack S D _ _ _ _ _ (c.is_open_near.ensures S D x) c.value_fetch.ensures
