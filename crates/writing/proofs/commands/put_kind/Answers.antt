-- `writing::commands::put_kind` meets its contract: the commands passed are written. Assumes nothing.
use native.Mathlib.Omega.{arith}
use Rattle.finite.proofs.Writing.{written_none, written-more, written-end, wrote-long}
use Rattle.writing.proofs.WritingLaws.{next-room}
use Rattle.writing.proofs.commands.put_kind.Goals as goal

pub loop-i-init : goal.loop-i-init
loop-i-init c = (omega arith, written_none _ _ _)

pub put_item-place-requires : goal.put_item-place-requires
put_item-place-requires c = (omega (arith, c.count_of-i-end.ensures), c.requires.0, c.requires.1, next-room _ _ _ _ _ _ _ (omega (arith, c.count_of-i-end.ensures)) c.requires.2 c.loop-i.invariant.1)

pub loop-i-preserved : goal.loop-i-preserved
loop-i-preserved c = (omega arith, written-more _ _ _ _ _ _ _ _ c.loop-i.invariant.1 c.put_item-place.ensures)

pub shape_of-out : goal.shape_of-out
shape_of-out c = wrote-long _ _ _ _ _ c.loop-i.invariant.1

pub returns : goal.returns
returns c = written-end _ _ _ _ _ _ _ (omega (arith, c.count_of-i-end.ensures)) (omega (arith, c.count_of-i-end.ensures)) c.loop-i.invariant.1
