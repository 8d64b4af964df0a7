-- `writing::commands::put_item` meets its contract: the byte tells the kind. Assumes nothing.
use native.Mathlib.Omega.{arith}
use mathlib.Core.Path.{refl}
use Rattle.format.proofs.KindLaws.{tables-few, constraints-few, fillings-few, rows_few}
use Rattle.format.proofs.Lengths.{length-table, length-constraint, length-filling}
use Rattle.writing.proofs.WritingLaws.{table_is, constraint-is, filling-is, row_is, room-is, wrote-is}
use Rattle.writing.proofs.commands.put_item.Goals as goal

pub offset_bounds-d-i : goal.offset_bounds-d-i
offset_bounds-d-i c = omega (arith, tables-few _ c.requires.1 _ _ c.requires.0 c.in-1.is)

pub bounds-d-i : goal.bounds-d-i
bounds-d-i c = omega (arith, tables-few _ c.requires.1 _ _ c.requires.0 c.in-1.is)

pub put_table-requires : goal.put_table-requires
put_table-requires c = room-is _ _ 3 _ _ (table_is _ _ _ _ _ c.in-1.is) (length-table _) c.requires.3

pub offset_bounds-d-i-in-2 : goal.offset_bounds-d-i-in-2
offset_bounds-d-i-in-2 c = omega (arith, constraints-few _ c.requires.1 _ _ c.requires.0 c.in-2.is)

pub bounds-d-i-in-2 : goal.bounds-d-i-in-2
bounds-d-i-in-2 c = omega (arith, constraints-few _ c.requires.1 _ _ c.requires.0 c.in-2.is)

pub put_constraint-requires : goal.put_constraint-requires
put_constraint-requires c = room-is _ _ 5 _ _ (constraint-is _ _ _ _ _ c.in-2.is) (length-constraint _) c.requires.3

pub offset_bounds-d-i-in-3 : goal.offset_bounds-d-i-in-3
offset_bounds-d-i-in-3 c = omega (arith, fillings-few _ c.requires.1 _ _ c.requires.0 c.in-3.is)

pub bounds-d-i-in-3 : goal.bounds-d-i-in-3
bounds-d-i-in-3 c = omega (arith, fillings-few _ c.requires.1 _ _ c.requires.0 c.in-3.is)

pub put_filling-requires : goal.put_filling-requires
put_filling-requires c = room-is _ _ 11 _ _ (filling-is _ _ _ _ _ c.in-3.is) (length-filling _) c.requires.3

pub put_live-requires : goal.put_live-requires
put_live-requires c = (
  rows_few _ c.requires.1 _ _ c.requires.0 (omega arith) (omega arith) (omega arith),
  c.requires.2,
  room-is _ _ _ _ _ (row_is _ _ _ _ _ (omega arith) (omega arith) (omega arith)) refl c.requires.3,
)

pub returns-in-1 : goal.returns-in-1
returns-in-1 c = wrote-is _ _ _ _ _ _ (table_is _ _ _ _ _ c.in-1.is) c.put_table.ensures

pub returns-in-2 : goal.returns-in-2
returns-in-2 c = wrote-is _ _ _ _ _ _ (constraint-is _ _ _ _ _ c.in-2.is) c.put_constraint.ensures

pub returns-in-3 : goal.returns-in-3
returns-in-3 c = wrote-is _ _ _ _ _ _ (filling-is _ _ _ _ _ c.in-3.is) c.put_filling.ensures

pub returns-in_default : goal.returns-in_default
returns-in_default c = wrote-is _ _ _ _ _ _ (row_is _ _ _ _ _ (omega arith) (omega arith) (omega arith)) c.put_live.ensures
