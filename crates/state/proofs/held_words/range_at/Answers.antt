use mathlib.Core.Path.{refl}
use Rattle.state.proofs.HeldWords.{range-read}
use Rattle.state.proofs.held_words.range_at.Goals as goal

pub returns : goal.returns
returns c = range-read _ _ _ c.requires.0 c.requires.1 _ _ _ c.byte_at.ensures refl refl
