-- `writing::commands::put_constraint` meets its contract: five stores. Assumes nothing.
use Rattle.writing.proofs.WritingLaws.{wrote-constraint}
use Rattle.writing.proofs.commands.put_constraint.Goals as goal

pub returns : goal.returns
returns c = wrote-constraint c.args.out.now c.args.at c.args.c
