use Rattle.std.proofs.Common.{rules}
use borrow.Author.Tests.{tests}
use Rattle.state.specs.Design.{filling_at}
use Rattle.state.specs.Lawful.{filling_fits, zero_filling, zero_column}
use Rattle.lawful.proofs.fillings.fillings_lawful.Goals as goal

pub returns : goal.returns
unfolding zero_filling zero_column
returns c = let d = c.args.d in
    c.places_lawful.ensures (λ i. filling_fits d i (filling_at d i)) (λ i. zero_filling (filling_at d i)) (λ i b k. search (rules, tests)) (λ i b k. search (rules, tests))
