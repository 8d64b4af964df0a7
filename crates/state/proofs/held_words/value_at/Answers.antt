use mathlib.Core.Path.{refl}
use Rattle.state.proofs.HeldWords.{value_read}
use Rattle.state.proofs.held_words.value_at.Goals as goal

pub returns : goal.returns
returns c = value_read _ _ c.requires _ _ _ _ c.byte_at.ensures c.byte_at-2.ensures refl c.byte_at-3.ensures
