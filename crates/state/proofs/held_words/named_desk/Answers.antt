use mathlib.Core.Path.{◌∙◌}
use Rattle.state.proofs.HeldWords.{desk-in}
use Rattle.state.proofs.held_words.named_desk.Goals as goal

pub returns : goal.returns
returns c = c.byte_at.ensures ∙ desk-in _
