use mathlib.Core.Path.{◌∙◌}
use Rattle.state.proofs.HeldWords.{ranges-count}
use Rattle.state.proofs.held_words.range_count.Goals as goal

pub returns : goal.returns
returns c = c.count_at.ensures ∙ ranges-count _ _ c.requires
