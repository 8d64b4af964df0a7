-- `desk::reporting::put_lists` meets its contract. Assumes nothing.
use mathlib.Core.Path.{sym, ◌∙◌}
use borrow.Author.Tests.{not-true, not-false}
use Rattle.desk.proofs.TextLaws.{number-lists, no-lists, these-lists, same-room}
use Rattle.desk.proofs.reporting.put_lists.Goals as goal

pub returns-then-not-has_lists : goal.returns-then-not-has_lists
returns-then-not-has_lists c = no-lists _ _ _ _ _ (sym c.has_lists.ensures ∙ not-true _ c.if-not-has_lists.true-raw)

pub put_list_lines-requires : goal.put_list_lines-requires
put_list_lines-requires c = let start = c in
    let has = sym c.has_lists.ensures ∙ not-false _ c.if-not-has_lists.false-raw in
    let number = number-lists c.show.result _ _ c.first_number-n.ensures c.show.ensures in
    let room = same-room _ _ _ _ _ _ number (start.requires.1 has) in
    (start.requires.0, room.0, room.1)

pub returns : goal.returns
returns c = let has = sym c.has_lists.ensures ∙ not-false _ c.if-not-has_lists.false-raw in
    let number = number-lists c.show.result _ _ c.first_number-n.ensures c.show.ensures in
    these-lists _ _ _ _ _ _ _ has _ number c.put_list_lines.ensures
