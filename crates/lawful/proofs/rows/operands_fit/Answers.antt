use Rattle.std.proofs.Common.{rules}
use borrow.Author.Tests.{tests}
use Rattle.state.specs.Changes.{row_cell}
use Rattle.lawful.proofs.rows.operands_fit.Goals as goal

pub returns : goal.returns
returns c = c.fits_table.ensures (row_cell c.args.x) (λ i y k. search (rules, tests))
