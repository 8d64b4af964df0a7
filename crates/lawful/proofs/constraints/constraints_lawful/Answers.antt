use Rattle.std.proofs.Common.{rules}
use borrow.Author.Tests.{tests}
use Rattle.state.specs.Design.{constraint_at}
use Rattle.state.specs.Lawful.{constraint_fits, zero_constraint, zero_column}
use Rattle.lawful.proofs.constraints.constraints_lawful.Goals as goal

pub returns : goal.returns
unfolding zero_constraint zero_column
returns c = let d = c.args.d in
    c.places_lawful.ensures (λ i. constraint_fits d i (constraint_at d i)) (λ i. zero_constraint (constraint_at d i)) (λ i b k. search (rules, tests)) (λ i b k. search (rules, tests))
