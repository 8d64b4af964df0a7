-- `catalog::listing::enter` meets its contract: the value is known or new. Assumes nothing.
use native.Mathlib.Omega.{arith}
use mathlib.Core.Logic.{inl, inr}
use mathlib.Core.Path.{refl}
use Rattle.catalog.proofs.Found.{stands_here, stands-below, stands-not}
use Rattle.catalog.proofs.Searching.{moved_open}
use Rattle.catalog.proofs.listing.enter.Goals as goal

pub bounds-heads-a : goal.bounds-heads-a
bounds-heads-a c = let a = c.args in
    omega (arith, stands-below _ a.keys.now a.m c.seat-a.result a.x c.stands.ensures c.if-stands.true)

pub bounds-heads-a-then-stands : goal.bounds-heads-a-then-stands
bounds-heads-a-then-stands c = let a = c.args in
    omega (arith, stands-below _ a.keys.now a.m c.seat-a.result a.x c.stands.ensures c.if-stands.true)

pub returns-then-stands : goal.returns-then-stands
returns-then-stands c = let s = c in
    let h = stands_here _ s.args.keys.now s.args.m c.seat-a.result s.args.x c.stands.ensures c.if-stands.true in
    inl (record {
      at = c.seat-a.result;
      start = (c.seat-a.ensures s.requires.0 s.requires.5).start;
      end = h.0;
      here = h.1;
      keys-are = refl;
      heads-are = refl;
      to_is = refl;
      next-is = refl;
    })

pub make_room-requires : goal.make_room-requires
make_room-requires c = let s = c in
    ((c.seat-a.ensures s.requires.0 s.requires.5).end, s.requires.1, s.requires.3, s.requires.4)

pub bounds-keys-a : goal.bounds-keys-a
bounds-keys-a c = let s = c in omega (arith, (c.seat-a.ensures s.requires.0 s.requires.5).end)

pub bounds-heads-a-2 : goal.bounds-heads-a-2
bounds-heads-a-2 c = let s = c in omega (arith, (c.seat-a.ensures s.requires.0 s.requires.5).end)

pub returns : goal.returns
returns c = let s = c in
    let p = c.seat-a.ensures s.requires.0 s.requires.5 in
    inr (record {
      at = c.seat-a.result;
      seat = p;
      other = stands-not _ s.args.keys.now s.args.m c.seat-a.result s.args.x c.stands.ensures c.if-stands.false;
      keys-are = moved_open _ _ _ _ _ (omega (arith, p.end)) c.make_room.ensures.0;
      heads-are = moved_open _ _ _ _ _ (omega (arith, p.end)) c.make_room.ensures.1;
      to_is = refl;
      next-is = refl;
    })
