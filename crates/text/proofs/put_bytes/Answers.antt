-- `text::put_bytes` meets its contract. Assumes nothing.
use native.Mathlib.Omega.{arith}
use lib.Seq.{length-take-le}
use Rattle.text.proofs.Copying.{copied}
use Rattle.text.proofs.put_bytes.Goals as goal

pub returns : goal.returns
returns c = rw c.copy_from_slice.ensures.after (copied _ _ _ _ (omega (arith, length-take-le c.args.n c.args.text.now c.requires.0)) c.requires.1)
