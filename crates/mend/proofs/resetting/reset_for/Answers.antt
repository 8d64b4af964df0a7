-- `mend::resetting::reset_for` meets its contract. Assumes nothing.
use Rattle.state.specs.Meaning.{constraint_of}
use Rattle.mend.proofs.ResetLaws.{only_same, leads-apart, leads-made}
use Rattle.mend.proofs.resetting.reset_for.Goals as goal

pub returns-then-rows-r : goal.returns-then-rows-r
returns-then-rows-r c = (only_same _ _, λ D x. leads-apart D _ _ (constraint_of c.args.j) _ _ _ c.if-rows-r.true)

pub returns : goal.returns
returns c = (c.reset_firsts.ensures.0, λ D x. leads-made D _ _ (constraint_of c.args.j) _ _ _ _ c.requires.i_bound.4 _ c.cell_at-v.ensures c.if-rows-r.false (c.reset_firsts.ensures.1 D x))
