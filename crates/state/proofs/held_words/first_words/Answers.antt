use mathlib.Core.Path.{◌∙◌}
use Rattle.state.proofs.Made.{take_is-tab}
use Rattle.state.proofs.held_words.first_words.Goals as goal

pub returns : goal.returns
returns c = c.copy_from_slice.ensures.after ∙ take_is-tab 0 358 c.args.words.now c.requires
