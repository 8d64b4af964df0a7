-- `slice::gaps::is_span_of` meets its contract. Assumes nothing.
use borrow.Author.Tests.{tests}
use Rattle.std.proofs.Common.{rules}
use Rattle.slice.specs.Fetches.{span_of}
use Rattle.slice.proofs.gaps.is_span_of.Goals as goal

pub returns-then-f-from : goal.returns-then-f-from
unfolding span_of
returns-then-f-from c = search (rules, tests)

pub returns-else-f-from : goal.returns-else-f-from
unfolding span_of
returns-else-f-from c = search (rules, tests)
