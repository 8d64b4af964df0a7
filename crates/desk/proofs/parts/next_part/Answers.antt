-- `desk::parts::next_part` meets its contract: what `fill` writes from 0 on stands in front of the buffer. Assumes nothing.
use native.Mathlib.Omega.{arith}
use mathlib.Core.Path.{refl}
use Rattle.desk.proofs.PartLaws.{continues}
use Rattle.desk.proofs.parts.next_part.Goals as goal

pub fill-requires : goal.fill-requires
fill-requires c = record { held_value = (c.requires.next_ready.0.sound, c.requires.next_ready.1, c.requires.next_ready.2); at_in_bounds = (λ e. (c.requires.next_ready.0.at, c.requires.next_ready.0.number), c.requires.words_len_bound.0, c.requires.words_len_bound.1, omega arith, c.requires.words_len_bound.2) }

pub returns : goal.returns
returns c = record { continues = continues _ _ _ _ _ _ _ _ _ _ refl refl refl refl c.fill.ensures.printed (omega (arith, c.fill.ensures.end_bound.0, c.requires.words_len_bound.2)) c.fill.ensures.end_bound.1; catalogued = c.fill.ensures.catalogued }
