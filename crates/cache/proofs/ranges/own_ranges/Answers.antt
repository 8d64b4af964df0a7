use mathlib.Core.Path.{ap, ◌∙◌}
use native.Mathlib.Omega.{arith}
use Rattle.state.specs.Held.{ranges_at}
use Rattle.state.specs.HeldWords.{words_held}
use Rattle.cache.proofs.ranges.own_ranges.Goals as goal

pub ranges_at-requires : goal.ranges_at-requires
ranges_at-requires c = omega (arith, c.named_desk.ensures, c.requires)

pub returns : goal.returns
returns c = c.ranges_at.ensures ∙ ap (ranges_at (words_held c.args.held.now)) c.named_desk.ensures
