-- `verdict::reached::cached_tables` meets its contract: each table in turn. Assumes nothing.
use Rattle.std.proofs.Common.{rules}
use borrow.Author.Tests.{tests}
use mathlib.Core.Bool.{false}
use Rattle.finite.proofs.Made.{tab_from-fn}
use Rattle.verdict.proofs.reached.cached_tables.Goals as goal

pub returns : goal.returns
returns c = tab_from-fn false _ c.from_fn.ensures.items (λ i y q l k. search (rules, tests))
