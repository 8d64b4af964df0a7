-- `words::to_words::put_filling` meets its contract: the words are copied over those that stood there. Assumes nothing.
use Prim.Native.Nat.{◌+◌}
use native.Mathlib.Omega.{arith}
use Rattle.words.specs.Words.{filling_words}
use Rattle.words.proofs.Overwriting.{overwritten}
use Rattle.words.proofs.to_words.put_filling.Goals as goal

pub returns : goal.returns
returns c = rw (c.copy_from_slice.ensures.after, c.from.ensures, c.from-2.ensures) (overwritten c.args.words.now (filling_words c.args.f) c.args.at (c.args.at + 4) (omega arith) c.requires)
