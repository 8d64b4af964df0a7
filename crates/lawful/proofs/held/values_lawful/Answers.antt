use Rattle.std.proofs.Common.{rules}
use borrow.Author.Tests.{tests}
use Rattle.model.specs.Cell.{is_blank}
use Rattle.state.specs.Held.{held_at}
use Rattle.state.specs.HeldWords.{words_held}
use Rattle.state.specs.Lawful.{held_fits, zero_held}
use Rattle.lawful.proofs.held.values_lawful.Goals as goal

pub returns : goal.returns
unfolding zero_held is_blank
returns c = let d = c.args.d in let h = words_held c.args.held.now in
    rw c.value_count.ensures at
    (c.places_lawful.ensures (λ i. held_fits d h i (held_at h i)) (λ i. zero_held (held_at h i)) (λ i b k. search (rules, tests)) (λ i b k. search (rules, tests)))
