-- `writing::numbers::put_u32` meets its contract. Assumes nothing.
use native.Mathlib.Omega.{arith}
use mathlib.Core.Path.{◌∙◌}
use Rattle.command.specs.Bytes.{u32_bytes}
use Rattle.format.proofs.Lengths.{length-u32}
use Rattle.writing.proofs.WritingLaws.{part-stored}
use Rattle.writing.proofs.numbers.put_u32.Goals as goal

pub returns : goal.returns
unfolding u32_bytes
returns c = part-stored c.args.out.now c.copy_from_slice.new.self (u32_bytes c.args.v) c.args.at _ (c.copy_from_slice.ensures.after ∙ c.to_le_bytes.ensures)
    (length-u32 c.args.v ∙ omega arith) (omega arith)
