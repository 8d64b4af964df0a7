-- `demanding::nearest::demanding_rows` meets its contract. Assumes nothing.
use Rattle.demanding.proofs.DemandingLaws.{demanding-none, demanding-end}
use Rattle.state.specs.Meaning.{scheme_of}
use mathlib.Core.Path.{refl, sym}
use native.Mathlib.Omega.{arith}
use Rattle.demanding.proofs.nearest.demanding_rows.Goals as goal

pub loop-i-init : goal.loop-i-init
loop-i-init c = (omega arith, refl, λ D x. demanding-none _ D _)

pub bounds-d-i : goal.bounds-d-i
bounds-d-i c = let s = c in omega (arith, c.loop-i-test.true, c.loop-i.invariant.1, s.requires.0.constraints)

pub note_nearest-requires : goal.note_nearest-requires
note_nearest-requires c = (omega (arith, c.loop-i-test.true, c.loop-i.invariant.1, c.requires.0.constraints), omega (arith, c.from.ensures, c.requires.0.target c.loop-i.i), c.reached_rows-reached.ensures, c.requires.1)

pub loop-i-preserved : goal.loop-i-preserved
unfolding scheme_of
loop-i-preserved c = let v = c.loop-i.invariant in (omega arith, v.1, λ D x. c.note_nearest.ensures _ D x (omega (arith, c.loop-i-test.true, v.1)) (sym c.from.ensures) (v.2 D x))

pub returns : goal.returns
returns c = let v = c.loop-i.invariant in λ D x. demanding-end _ D _ _ _ _ (omega (arith, v.0, v.1)) (omega (arith, c.loop-i-test.false, v.1)) (v.2 D x)
