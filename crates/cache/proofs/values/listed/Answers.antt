-- `cache::values::listed` meets its contract: a pair is held if it has a place. Assumes nothing.
use mathlib.Core.Path.{◌∙◌}
use Rattle.state.specs.HeldWords.{words_held}
use Rattle.cache.proofs.HeldRecord.{listed-some}
use Rattle.cache.proofs.values.listed.Goals as goal

pub returns : goal.returns
returns c = c.is_some.ensures ∙ listed-some (words_held c.args.held.now) _ _ c.place.ensures
