-- `command::bytes::u16_at` meets its contract. Assumes nothing.
use native.Mathlib.Omega.{arith}
use mathlib.Core.Path.{◌∙◌}
use Rattle.command.specs.Bytes.{u16_at}
use Rattle.command.proofs.bytes.u16_at.Goals as goal

pub returns : goal.returns
unfolding u16_at
returns c = c.from_le_bytes.ensures ∙ omega arith
