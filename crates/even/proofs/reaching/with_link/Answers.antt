-- `even::reaching::with_link` meets its contract. Assumes nothing.
use Rattle.std.proofs.Common.{rules}
use borrow.Author.Tests.{tests}
use Rattle.even.specs.Reading.{with_link}
use Rattle.even.proofs.reaching.with_link.Goals as goal
use Rattle.even.proofs.reaching.with_link.Goals.{else-s-lt-TABLES-via-then-s-lt-TABLES+else-t-lt-TABLES, else-s-lt-TABLES-via-else-s-lt-TABLES}

pub returns-then-t-lt-TABLES : goal.returns-then-t-lt-TABLES
unfolding with_link
returns-then-t-lt-TABLES c = search (rules, tests)

pub returns-else-s-lt-TABLES : goal.returns-else-s-lt-TABLES
unfolding with_link
returns-else-s-lt-TABLES c = elim c.else-s-lt-TABLES.branch [
  | else-s-lt-TABLES-via-then-s-lt-TABLES+else-t-lt-TABLES w ↦ search (rules, tests)
  | else-s-lt-TABLES-via-else-s-lt-TABLES w ↦ search (rules, tests)
]
