-- `catalog::values::drop_value` meets its contract: the key stands at its seat. Assumes nothing.
use native.Mathlib.Omega.{arith}
use mathlib.Core.Path.{refl, ap}
use mathlib.Core.Logic.{inl, inr}
use lib.ListN.{set}
use Rattle.mend.proofs.ValueLaws.{to-bound, seat-at, seat-stands, stands-before, starts-above, closed, alone-says}
use Rattle.mend.proofs.values.drop_value.Goals as goal

pub seat-a-requires : goal.seat-a-requires
seat-a-requires c = to-bound 0 _ _ _ _ c.requires.0 c.requires.2 _ _ c.wide.ensures c.wide-2.ensures

pub offset_bounds-heads-a : goal.offset_bounds-heads-a
offset_bounds-heads-a c = omega (arith, stands-before _ _ _ _ _ c.requires.0 c.requires.2 _ (seat-stands _ _ _ _ _ c.requires.0 c.requires.2 _ (seat-at _ _ _ _ _ c.requires.0 c.requires.2 _ _ c.wide.ensures c.wide-2.ensures _ c.seat-a.ensures) _ c.requires.3.1))

pub bounds-heads-a : goal.bounds-heads-a
bounds-heads-a c = omega (arith, stands-before _ _ _ _ _ c.requires.0 c.requires.2 _ (seat-stands _ _ _ _ _ c.requires.0 c.requires.2 _ (seat-at _ _ _ _ _ c.requires.0 c.requires.2 _ _ c.wide.ensures c.wide-2.ensures _ c.seat-a.ensures) _ c.requires.3.1))

pub close_room-requires : goal.close_room-requires
close_room-requires c = (omega (arith, stands-before _ _ _ _ _ c.requires.0 c.requires.2 _ (seat-stands _ _ _ _ _ c.requires.0 c.requires.2 _ (seat-at _ _ _ _ _ c.requires.0 c.requires.2 _ _ c.wide.ensures c.wide-2.ensures _ c.seat-a.ensures) _ c.requires.3.1), c.wide-then-alone.ensures), omega (arith, c.wide-then-alone.ensures, c.requires.2.end), c.requires.2.keys-long, c.requires.2.heads-long)

pub sink-requires : goal.sink-requires
sink-requires c = (c.requires.0, c.requires.2.starts-long, starts-above _ _ _ _ _ c.requires.0 c.requires.2 _ (seat-stands _ _ _ _ _ c.requires.0 c.requires.2 _ (seat-at _ _ _ _ _ c.requires.0 c.requires.2 _ _ c.wide.ensures c.wide-2.ensures _ c.seat-a.ensures) _ c.requires.3.1))

pub returns-then-alone : goal.returns-then-alone
returns-then-alone c = let a = alone-says _ _ _ _ c.alone.ensures c.if-alone.true in
    inr (closed _ _ _ _ _ c.requires.0 c.requires.2 _ _ _ (seat-stands _ _ _ _ _ c.requires.0 c.requires.2 _ (seat-at _ _ _ _ _ c.requires.0 c.requires.2 _ _ c.wide.ensures c.wide-2.ensures _ c.seat-a.ensures) _ c.requires.3.1) a.0 a.1 _ c.wide-then-alone.ensures _ _ _ c.close_room.ensures.0 c.close_room.ensures.1 c.sink.ensures)

pub offset_bounds-heads-a-2 : goal.offset_bounds-heads-a-2
offset_bounds-heads-a-2 c = omega (arith, stands-before _ _ _ _ _ c.requires.0 c.requires.2 _ (seat-stands _ _ _ _ _ c.requires.0 c.requires.2 _ (seat-at _ _ _ _ _ c.requires.0 c.requires.2 _ _ c.wide.ensures c.wide-2.ensures _ c.seat-a.ensures) _ c.requires.3.1))

pub bounds-heads-a-2 : goal.bounds-heads-a-2
bounds-heads-a-2 c = omega (arith, stands-before _ _ _ _ _ c.requires.0 c.requires.2 _ (seat-stands _ _ _ _ _ c.requires.0 c.requires.2 _ (seat-at _ _ _ _ _ c.requires.0 c.requires.2 _ _ c.wide.ensures c.wide-2.ensures _ c.seat-a.ensures) _ c.requires.3.1))

pub offset_bounds-heads-a-3 : goal.offset_bounds-heads-a-3
offset_bounds-heads-a-3 c = omega (arith, stands-before _ _ _ _ _ c.requires.0 c.requires.2 _ (seat-stands _ _ _ _ _ c.requires.0 c.requires.2 _ (seat-at _ _ _ _ _ c.requires.0 c.requires.2 _ _ c.wide.ensures c.wide-2.ensures _ c.seat-a.ensures) _ c.requires.3.1))

pub bounds-heads-a-3 : goal.bounds-heads-a-3
bounds-heads-a-3 c = omega (arith, stands-before _ _ _ _ _ c.requires.0 c.requires.2 _ (seat-stands _ _ _ _ _ c.requires.0 c.requires.2 _ (seat-at _ _ _ _ _ c.requires.0 c.requires.2 _ _ c.wide.ensures c.wide-2.ensures _ c.seat-a.ensures) _ c.requires.3.1))

pub returns : goal.returns
returns c = inl (record { at = c.seat-a.result; stands = seat-stands _ _ _ _ _ c.requires.0 c.requires.2 _ (seat-at _ _ _ _ _ c.requires.0 c.requires.2 _ _ c.wide.ensures c.wide-2.ensures _ c.seat-a.ensures) _ c.requires.3.1; keys-are = refl; heads-are = ap (set c.args.heads.now c.seat-a.result) c.first_without.ensures; starts-are = refl })
