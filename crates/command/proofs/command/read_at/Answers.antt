-- `command::command::read_at` meets its contract: where no test stops it, the whole command is there. Assumes nothing.
use native.Mathlib.Omega.{arith}
use mathlib.Core.Path.{◌≡◌, ap}
use borrow.Author.Tests.{tests}
use Rattle.std.proofs.Common.{rules}
use Rattle.command.specs.Bytes.{byte_at}
use Rattle.command.specs.Commands.{width_of}
use Rattle.command.specs.Opcodes.{byte_of}
use Rattle.command.proofs.CommandLaws.{at-whole}
use Rattle.command.proofs.command.read_at.Goals as goal

pub returns : goal.returns
returns c =
    let e : byte_of c.in-Ok.opcode ≡ byte_at c.args.script.now c.args.at = search rules in
    let w = at-whole c.args.script.now c.args.at (search (rules, tests)) (λ z. omega (arith, ap width_of e, c.width-w.ensures)) (omega (arith, ap width_of e, c.width-w.ensures)) in
    cc
