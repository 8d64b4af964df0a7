use Rattle.std.proofs.Common.{rules}
use Rattle.state.specs.Held.{no_range, range_at, ranges_at}
use Rattle.state.specs.HeldWords.{words_held}
use Rattle.state.proofs.HeldWords.{ranges-is}
use Rattle.finite.proofs.Made.{tab_from-fn}
use Rattle.state.proofs.held_words.ranges_at.Goals as goal

pub returns : goal.returns
returns c =
    ranges-is _ _ c.requires _ _ c.range_count.ensures
    (tab_from-fn no_range (range_at (ranges_at (words_held c.args.held.now) c.args.e)) c.from_fn.ensures.items (λ i y q l k. search rules))
