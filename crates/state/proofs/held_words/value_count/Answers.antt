use mathlib.Core.Path.{◌∙◌}
use Rattle.state.proofs.HeldWords.{count-in}
use Rattle.state.proofs.held_words.value_count.Goals as goal

pub returns : goal.returns
returns c = c.count_at.ensures ∙ count-in _
