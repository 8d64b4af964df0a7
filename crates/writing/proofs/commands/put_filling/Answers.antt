-- `writing::commands::put_filling` meets its contract: three stores and two numbers. Assumes nothing.
use native.Mathlib.Omega.{arith}
use mathlib.Core.Path.{◌∙◌}
use lib.ListN.{length-set}
use Rattle.writing.proofs.WritingLaws.{wrote-filling}
use Rattle.writing.proofs.commands.put_filling.Goals as goal

pub put_u32-requires : goal.put_u32-requires
put_u32-requires c = simp length-set (omega arith)

pub put_u32-requires-2 : goal.put_u32-requires-2
put_u32-requires-2 c = let h = simp length-set at c.put_u32.auto.out in omega arith

pub shape_of-out : goal.shape_of-out
shape_of-out c = c.put_u32-2.auto.out ∙ (simp length-set at c.put_u32.auto.out)

pub returns : goal.returns
returns c = wrote-filling c.args.out.now _ _ c.args.at c.args.f c.put_u32.ensures c.put_u32-2.ensures
