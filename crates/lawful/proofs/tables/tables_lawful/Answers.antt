use Rattle.std.proofs.Common.{rules}
use borrow.Author.Tests.{tests}
use Rattle.state.specs.Design.{table_at}
use Rattle.state.specs.Lawful.{table_fits, zero_table}
use Rattle.lawful.proofs.tables.tables_lawful.Goals as goal

pub returns : goal.returns
unfolding zero_table
returns c = let d = c.args.d in
    c.places_lawful.ensures (λ i. table_fits (table_at d i)) (λ i. zero_table (table_at d i)) (λ i b k. search (rules, tests)) (λ i b k. search (rules, tests))
