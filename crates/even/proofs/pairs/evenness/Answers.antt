-- `even::pairs::evenness` meets its contract. The invariant: the search for the lowest i may go on from here. Assumes nothing.
use native.Mathlib.Omega.{arith}
use mathlib.Core.Path.{refl, ◌∙◌}
use Rattle.state.specs.Meaning.{scheme_of}
use Rattle.even.proofs.PairLaws.{lowest-here, lowest-skip, lowest-none}
use Rattle.even.proofs.pairs.evenness.Goals as goal

pub loop-i-init : goal.loop-i-init
unfolding scheme_of
loop-i-init c = (omega arith, refl, c.reachable-m.ensures, refl)

pub uneven_from-j-requires : goal.uneven_from-j-requires
uneven_from-j-requires c = let s = c in
    (s.requires, omega (arith, c.loop-i-test.true, c.loop-i.invariant.1, s.requires.constraints), c.loop-i.invariant.2)

pub overflow_cast-result : goal.overflow_cast-result
overflow_cast-result c = let s = c in
    omega (arith, c.loop-i-test.true, c.loop-i.invariant.1, s.requires.constraints)

pub overflow_cast-result-then-j-n : goal.overflow_cast-result-then-j-n
overflow_cast-result-then-j-n c = let s = c in
    omega (arith, c.if-j-n.true, c.loop-i.invariant.1, s.requires.constraints)

pub returns-then-j-n : goal.returns-then-j-n
returns-then-j-n c = let v = c.loop-i.invariant in
    lowest-here _ _ _ c.uneven_from-j.ensures v.3 c.loop-i-test.true c.if-j-n.true

pub loop-i-preserved : goal.loop-i-preserved
loop-i-preserved c = let v = c.loop-i.invariant in
    (omega arith, v.1, v.2, v.3 ∙ lowest-skip _ _ _ c.uneven_from-j.ensures c.if-j-n.false)

pub returns : goal.returns
returns c = lowest-none _ _ c.loop-i.invariant.3 c.loop-i-test.false
