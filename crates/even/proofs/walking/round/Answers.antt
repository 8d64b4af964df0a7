-- `even::walking::round` meets its contract. Assumes nothing.
use Rattle.even.proofs.KnotCode.{round-start, round-read, round-done, cheap-far}
use Rattle.even.proofs.LinkLaws.{laid}
use Rattle.state.specs.Meaning.{scheme_of}
use native.Mathlib.Omega.{arith}
use Rattle.even.proofs.walking.round.Goals as goal

pub loop-e-init : goal.loop-e-init
loop-e-init c = (omega arith, λ S l. round-start S _ c.requires.1.1.long (cheap-far _ _ _ c.requires.1.1))

pub step_to-requires : goal.step_to-requires
step_to-requires c = let s = c in
    (s.requires.0.source-table _, s.requires.0.target-table _, omega (arith, c.weight_of-w.ensures), s.requires.1.1.long, (c.loop-e.invariant.1 (scheme_of s.args.d) (laid s.args.d)).long, cheap-far _ _ _ s.requires.1.1)

pub loop-e-preserved : goal.loop-e-preserved
loop-e-preserved c = (omega arith, λ S l. round-read S _ _ l _ _ _ _ _ (c.loop-e.invariant.1 S l) c.weight_of-w.ensures c.step_to.ensures)

pub returns : goal.returns
returns c = let s = c in
    let d = s.args.d in
    λ m h. round-done d s.requires.0 _ m _ _ h c.loop-e.invariant.0 c.loop-e-test.false (c.loop-e.invariant.1 (scheme_of d) (laid d))
