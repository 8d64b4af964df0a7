-- `words::to_words::put_constraint` meets its contract: the words are copied over those that stood there. Assumes nothing.
use Prim.Native.Nat.{◌+◌}
use native.Mathlib.Omega.{arith}
use Rattle.words.specs.Words.{constraint_words}
use Rattle.words.proofs.Overwriting.{overwritten}
use Rattle.words.proofs.to_words.put_constraint.Goals as goal

pub returns : goal.returns
returns c = rw (c.copy_from_slice.ensures.after, c.from.ensures, c.from-2.ensures, c.from-3.ensures, c.from-4.ensures) (overwritten c.args.words.now (constraint_words c.args.c) c.args.at (c.args.at + 4) (omega arith) c.requires)
