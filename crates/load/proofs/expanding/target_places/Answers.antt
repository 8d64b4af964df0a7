-- `load::expanding::target_places` meets its contract. Assumes nothing.
use Rattle.std.proofs.Common.{rules}
use borrow.Author.Tests.{tests}
use Rattle.finite.proofs.Made.{tab_from-fn}
use Rattle.load.proofs.expanding.target_places.Goals as goal

pub returns : goal.returns
returns c = tab_from-fn 0 _ c.from_fn.ensures.items (λ i y q l k. search (rules, tests))
