use Rattle.std.proofs.Common.{rules}
use borrow.Author.Tests.{tests}
use mathlib.Core.Path.{◌∙◌}
use borrow.Author.Tests.{le-leb, lt-leb}
use Rattle.finite.proofs.Bools.{and-go, and-stop}
use Rattle.state.specs.Held.{range_at}
use Rattle.state.specs.Lawful.{range_fits, zero_range, lawful_ranges}
use Rattle.lawful.proofs.ranges.lawful_ranges.Goals as goal

pub returns-then-s-le-RANGES : goal.returns-then-s-le-RANGES
unfolding lawful_ranges zero_range
returns-then-s-le-RANGES c = let a = c.args in
    and-go _ _ (le-leb _ _ c.if-s-le-RANGES.true)
    (c.places_lawful.ensures (range_fits a.d a.s) (λ i. zero_range (range_at a.s i)) (λ i b k. search (rules, tests)) (λ i b k. search (rules, tests)))

pub returns-else-s-le-RANGES : goal.returns-else-s-le-RANGES
unfolding lawful_ranges
returns-else-s-le-RANGES c = let e = lt-leb _ _ c.if-s-le-RANGES.false in e ∙ and-stop _ _ e
