-- `mend::resetting::demand_out` meets its contract. Assumes nothing.
use mathlib.Core.Path.{◌∙◌}
use Rattle.state.specs.Meaning.{constraint_of}
use Rattle.mend.proofs.ResetLaws.{only_set, firsts-goes}
use Rattle.mend.proofs.resetting.demand_out.Goals as goal

pub returns : goal.returns
returns c = (only_set _ _ _ _ _ c.requires.r_bound.0 c.reset_for.ensures.0, λ E w x f. firsts-goes E _ _ w (constraint_of c.args.j) _ c.requires.i_bound.0 _ _ (c.reset_for.ensures.0.long ∙ x.links.long) f (c.reset_for.ensures.1 E x))
