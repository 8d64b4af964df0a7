-- `mend::resetting::demand_in` meets its contract. Assumes nothing.
use mathlib.Core.Path.{◌∙◌}
use Rattle.state.specs.Meaning.{constraint_of}
use Rattle.mend.proofs.ResetLaws.{only_set, only-indexed, firsts-comes}
use Rattle.mend.proofs.resetting.demand_in.Goals as goal

pub demanded-requires : goal.demanded-requires
demanded-requires c = record { backed = c.requires.r_bound.1; s_bound = (c.requires.r_bound.0, c.requires.i_bound.2, c.requires.i_bound.3, c.requires.i_bound.4); directory = (only-indexed _ _ _ _ _ c.requires.i_bound.0 c.reset_for.ensures.0 c.requires.indexed).directory }

pub returns : goal.returns
returns c = (only_set _ _ _ _ _ c.requires.r_bound.0 c.reset_for.ensures.0, λ E w f. firsts-comes E _ _ w (constraint_of c.args.j) _ c.requires.i_bound.0 _ _ (c.reset_for.ensures.0.long ∙ c.requires.indexed.links.long) _ c.demanded.ensures f (c.reset_for.ensures.1 _ c.requires.indexed))
