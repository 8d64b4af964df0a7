-- `writing::commands::put_row` meets its contract: as 0x04, or as 0x07 with the issues behind. Assumes nothing.
use native.Mathlib.Omega.{arith}
use mathlib.Core.Path.{sym, ◌∙◌}
use Rattle.writing.proofs.WritingLaws.{room-plain, room-issued, wrote-plain, wrote-issued}
use Rattle.writing.proofs.commands.put_row.Goals as goal

pub is_issued-requires : goal.is_issued-requires
is_issued-requires c = (c.requires.0, c.requires.1.issued)

pub put_front-requires : goal.put_front-requires
put_front-requires c = (c.requires.0, c.requires.1.rows, c.requires.1.members, room-plain _ _ _ _ _ c.requires.2 (sym (c.is_issued.ensures _) ∙ c.if-not-is_issued.true))

pub overflow_add-result : goal.overflow_add-result
overflow_add-result c = let l = room-plain _ _ _ _ _ c.requires.2 (sym (c.is_issued.ensures _) ∙ c.if-not-is_issued.true) in omega (arith, l)

pub returns-then-not-is_issued : goal.returns-then-not-is_issued
returns-then-not-is_issued c = wrote-plain _ _ _ _ _ _ (sym (c.is_issued.ensures _) ∙ c.if-not-is_issued.true) (c.put_front.ensures _)

pub put_front-requires-2 : goal.put_front-requires-2
put_front-requires-2 c = let l = room-issued _ _ _ _ _ c.requires.2 (sym (c.is_issued.ensures _) ∙ c.if-not-is_issued.false) in
    (c.requires.0, c.requires.1.rows, c.requires.1.members, omega (arith, l))

pub overflow_add-at : goal.overflow_add-at
overflow_add-at c = let l = room-issued _ _ _ _ _ c.requires.2 (sym (c.is_issued.ensures _) ∙ c.if-not-is_issued.false) in omega (arith, l)

pub put_issues-requires : goal.put_issues-requires
put_issues-requires c = let l = room-issued _ _ _ _ _ c.requires.2 (sym (c.is_issued.ensures _) ∙ c.if-not-is_issued.false) in
    (c.requires.0, c.requires.1.issued, omega (arith, l, c.put_front-2.auto.out))

pub overflow_add-result-2 : goal.overflow_add-result-2
overflow_add-result-2 c = let l = room-issued _ _ _ _ _ c.requires.2 (sym (c.is_issued.ensures _) ∙ c.if-not-is_issued.false) in omega (arith, l)

pub returns : goal.returns
returns c = wrote-issued _ _ _ _ _ _ _ (sym (c.is_issued.ensures _) ∙ c.if-not-is_issued.false) (c.put_front-2.ensures _) (c.put_issues.ensures _)
