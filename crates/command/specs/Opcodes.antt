-- The bytes of the commands by name. Assumes nothing.
use Rattle.std.specs.Prelude.{ℕ, ◌≡◌, Result}
use Rattle.std.specs.Result.{MatchResult}
use Rattle.command.specs.declared.opcode.Opcode.{Opcode}
use Rattle.command.specs.declared.opcode.Opcode.TheVariants as O
use Rattle.command.specs.declared.opcode.UnknownByte.{UnknownByte}
use Rattle.command.specs.Commands.{width_of}

unfoldable pub byte_of : Opcode → ℕ
byte_of O.Table = 0x01
byte_of O.Constraint = 0x02
byte_of O.Filling = 0x03
byte_of O.Row = 0x04
byte_of O.End = 0x05
byte_of O.IssuedRow = 0x07
byte_of O.Refer = 0x10
byte_of O.Drop = 0x11
byte_of O.Probe = 0x12
byte_of O.Query = 0x13
byte_of O.Evenness = 0x14
byte_of O.Total = 0x15
byte_of O.Name = 0x17
byte_of O.Reason = 0x18
byte_of O.Opener = 0x19
byte_of O.ReferRange = 0x1A
byte_of O.DropRange = 0x1B
byte_of O.SmallestKnot = 0x1C
byte_of O.Put = 0x1D
byte_of O.Remove = 0x1E
byte_of O.IssuedRefer = 0x20
byte_of O.IssuedDrop = 0x21
byte_of O.IssuedProbe = 0x22
byte_of O.IssuedQuery = 0x23
byte_of O.IssuedTotal = 0x25

-- the byte is the command's, or no command has it
abbrev pub Decodes : ℕ → Result Opcode UnknownByte → Type 0
Decodes b r = MatchResult r (λ o. byte_of o ≡ b) (λ _. width_of b ≡ 0)
