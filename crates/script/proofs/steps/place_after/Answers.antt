-- `script::steps::place_after` meets its contract. Assumes nothing.
use native.Mathlib.Omega.{arith}
use Rattle.command.specs.Bytes.{byte_at}
use Rattle.command.proofs.CommandLaws.{width-most, width-past}
use Rattle.script.proofs.steps.place_after.Goals as goal

pub returns-then-script-at : goal.returns-then-script-at
returns-then-script-at c = let a = c.args in omega (arith, width-past a.script.now a.at c.if-script-at.true)

pub overflow_add-result : goal.overflow_add-result
overflow_add-result c = let a = c.args in omega (arith, width-most (byte_at a.script.now a.at))
