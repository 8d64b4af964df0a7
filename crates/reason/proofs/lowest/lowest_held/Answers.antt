-- `reason::lowest::lowest_held` meets its contract: the values, then the ranges. Assumes nothing.
use Rattle.state.specs.HeldWords.{words_held}
use Rattle.reason.proofs.LowestLaws.{lowest-found}
use Rattle.reason.proofs.lowest.lowest_held.Goals as goal

pub returns : goal.returns
returns c = let s = c in
    lowest-found _ _ _ (words_held s.args.held.now) s.requires.i_value _ _ c.lowest_value-value.ensures c.lowest_ranges-low.ensures
