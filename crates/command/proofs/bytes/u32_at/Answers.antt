-- `command::bytes::u32_at` meets its contract. Assumes nothing.
use native.Mathlib.Omega.{arith}
use mathlib.Core.Path.{◌∙◌}
use Rattle.command.specs.Bytes.{u32_at}
use Rattle.command.proofs.bytes.u32_at.Goals as goal

pub returns : goal.returns
unfolding u32_at
returns c = c.from_le_bytes.ensures ∙ omega arith
