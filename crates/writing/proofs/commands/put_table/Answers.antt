-- `writing::commands::put_table` meets its contract: three stores. Assumes nothing.
use Rattle.writing.proofs.WritingLaws.{wrote-table}
use Rattle.writing.proofs.commands.put_table.Goals as goal

pub returns : goal.returns
returns c = wrote-table c.args.out.now c.args.at c.args.t
