-- `writing::commands::put_front` meets its contract: two stores and the numbers. Assumes nothing.
use native.Mathlib.Omega.{arith}
use lib.ListN.{get_or, length-set}
use Rattle.writing.proofs.WritingLaws.{stored-front}
use Rattle.writing.proofs.commands.put_front.Goals as goal

pub put_cells-requires : goal.put_cells-requires
put_cells-requires c = (c.requires.0, c.requires.1, simp length-set (omega arith))

pub shape_of-out : goal.shape_of-out
shape_of-out c = simp length-set at c.put_cells.auto.out

pub returns : goal.returns
returns c = λ issues. let s = c in stored-front s.args.out.now _ s.args.at s.args.b (get_or s.args.tables.now s.args.r 0) _ _ (c.put_cells.ensures issues)
