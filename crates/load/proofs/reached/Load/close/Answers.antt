-- `load::reached::Load::close` meets its contract: what `run` gives, and nothing to do if round 0 added nothing. Assumes nothing.
use native.Mathlib.Omega.{arith}
use mathlib.Core.Path.{sym, ◌∙◌}
use Rattle.load.proofs.EndedLaws.{ended-whole}
use Rattle.load.proofs.FrontLaws.{queue-empty}
use Rattle.model.proofs.RoundsEnd.{running_none}
use Rattle.load.proofs.WalkedLaws.{walked_none}
use Rattle.load.proofs.reached.Load.close.Goals as goal

pub returns-then-self-eq0 : goal.returns-then-self-eq0
returns-then-self-eq0 c = λ D x.
    let u = c.args.self.now in
    let e = c.if-self-eq0.true in
    let z = x.links.size_is in
    ended-whole _ _ _ _ _ _ _ (sym e ∙ u.listed.size) z (running_none _ _ _ (u.long ∙ sym z) (λ r l. queue-empty _ _ _ u.listed e r (omega (arith, z))))

pub run-requires-clause-demands : goal.run-requires-clause-demands
run-requires-clause-demands c = (c.requires.demands.0, c.requires.demands.1, walked_none _ _)

pub returns : goal.returns
returns c = λ D x. c.run.ensures D x (walked_none _ _)
