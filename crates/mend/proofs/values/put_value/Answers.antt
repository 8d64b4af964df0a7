-- `catalog::values::put_value` meets its contract: the key stands at its seat, or a place is opened there. Assumes nothing.
use native.Mathlib.Omega.{arith}
use mathlib.Core.Path.{refl, ap, ◌∙◌}
use mathlib.Core.Logic.{inl, inr}
use lib.ListN.{set}
use Rattle.mend.proofs.ValueLaws.{lower_is, to-bound, seat-end, seat-met, stands-before, opens}
use Rattle.mend.proofs.values.put_value.Goals as goal

pub seat-a-requires : goal.seat-a-requires
seat-a-requires c = to-bound 0 _ _ _ _ c.requires.0 c.requires.2 _ _ c.wide.ensures c.wide-to.ensures

pub stands-requires : goal.stands-requires
stands-requires c = to-bound 0 _ _ _ _ c.requires.0 c.requires.2 _ _ c.wide.ensures c.wide-to.ensures

pub offset_bounds-heads-a : goal.offset_bounds-heads-a
offset_bounds-heads-a c = omega (arith, stands-before _ _ _ _ _ c.requires.0 c.requires.2 _ (seat-met _ _ _ _ _ c.requires.0 c.requires.2 _ _ c.wide.ensures c.wide-to.ensures _ c.seat-a.ensures _ c.stands.ensures c.if-stands.true))

pub bounds-heads-a : goal.bounds-heads-a
bounds-heads-a c = omega (arith, stands-before _ _ _ _ _ c.requires.0 c.requires.2 _ (seat-met _ _ _ _ _ c.requires.0 c.requires.2 _ _ c.wide.ensures c.wide-to.ensures _ c.seat-a.ensures _ c.stands.ensures c.if-stands.true))

pub offset_bounds-heads-a-then-stands : goal.offset_bounds-heads-a-then-stands
offset_bounds-heads-a-then-stands c = omega (arith, stands-before _ _ _ _ _ c.requires.0 c.requires.2 _ (seat-met _ _ _ _ _ c.requires.0 c.requires.2 _ _ c.wide.ensures c.wide-to.ensures _ c.seat-a.ensures _ c.stands.ensures c.if-stands.true))

pub bounds-heads-a-then-stands : goal.bounds-heads-a-then-stands
bounds-heads-a-then-stands c = omega (arith, stands-before _ _ _ _ _ c.requires.0 c.requires.2 _ (seat-met _ _ _ _ _ c.requires.0 c.requires.2 _ _ c.wide.ensures c.wide-to.ensures _ c.seat-a.ensures _ c.stands.ensures c.if-stands.true))

pub returns-then-stands : goal.returns-then-stands
returns-then-stands c = inl (record { at = c.seat-a.result; stands = seat-met _ _ _ _ _ c.requires.0 c.requires.2 _ _ c.wide.ensures c.wide-to.ensures _ c.seat-a.ensures _ c.stands.ensures c.if-stands.true; keys-are = refl; heads-are = ap (set c.args.heads.now c.seat-a.result) (c.min.ensures ∙ lower_is _ _); starts-are = refl })

pub make_room-requires : goal.make_room-requires
make_room-requires c = (omega (arith, seat-end _ _ _ _ _ c.requires.0 c.requires.2 _ _ c.wide.ensures c.wide-to.ensures _ c.seat-a.ensures, c.wide-2.ensures), omega (arith, c.wide-2.ensures), c.requires.2.keys-long, c.requires.2.heads-long)

pub offset_bounds-keys-a : goal.offset_bounds-keys-a
offset_bounds-keys-a c = omega (arith, seat-end _ _ _ _ _ c.requires.0 c.requires.2 _ _ c.wide.ensures c.wide-to.ensures _ c.seat-a.ensures)

pub bounds-keys-a : goal.bounds-keys-a
bounds-keys-a c = omega (arith, seat-end _ _ _ _ _ c.requires.0 c.requires.2 _ _ c.wide.ensures c.wide-to.ensures _ c.seat-a.ensures)

pub offset_bounds-heads-a-2 : goal.offset_bounds-heads-a-2
offset_bounds-heads-a-2 c = omega (arith, seat-end _ _ _ _ _ c.requires.0 c.requires.2 _ _ c.wide.ensures c.wide-to.ensures _ c.seat-a.ensures)

pub bounds-heads-a-2 : goal.bounds-heads-a-2
bounds-heads-a-2 c = omega (arith, seat-end _ _ _ _ _ c.requires.0 c.requires.2 _ _ c.wide.ensures c.wide-to.ensures _ c.seat-a.ensures)

pub raise-requires : goal.raise-requires
raise-requires c = (c.requires.0, c.requires.2.starts-long, λ j b. omega (arith, c.requires.3, c.requires.2.rises j 64 (omega arith) (omega arith)))

pub returns : goal.returns
returns c = inr (opens _ _ _ _ _ c.requires.0 c.requires.2 _ _ c.wide.ensures c.wide-to.ensures _ c.seat-a.ensures _ c.stands.ensures _ _ c.wide-2.ensures (omega (arith, c.wide-2.ensures)) c.if-stands.false _ _ _ c.make_room.ensures.0 c.make_room.ensures.1 c.raise.ensures)
