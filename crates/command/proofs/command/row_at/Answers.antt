-- `command::command::row_at` meets its contract: each element is read at its place. Assumes nothing.
use borrow.Author.Tests.{tests}
use Rattle.std.proofs.Common.{rules}
use Rattle.command.proofs.CommandLaws.{put-row}
use Rattle.finite.proofs.Made.{tab_from-fn}
use Rattle.command.specs.Commands.{put_row_at}
use Rattle.command.proofs.command.row_at.Goals as goal

pub returns : goal.returns
unfolding put_row_at
returns c = put-row _ _ _ _ (tab_from-fn 0 _ c.from_fn.ensures.items (λ x y q l k. search (rules, tests))) (tab_from-fn 0 _ c.from_fn-2.ensures.items (λ x y q l k. search (rules, tests)))
