-- `writing::commands::put_live` meets its contract. Assumes nothing.
use mathlib.Core.Path.{refl, sym, ◌∙◌}
use Rattle.writing.proofs.WritingLaws.{wrote-absent, row-there, room-is, wrote-is}
use Rattle.writing.proofs.commands.put_live.Goals as goal

pub returns-then-not-is_live : goal.returns-then-not-is_live
returns-then-not-is_live c = wrote-absent _ _ _ _ _ (sym (c.is_live.ensures _) ∙ c.if-not-is_live.true)

pub put_row-requires : goal.put_row-requires
put_row-requires c = (
  c.requires.0,
  c.requires.1,
  room-is _ _ _ _ _ (row-there _ _ _ (sym (c.is_live.ensures _) ∙ c.if-not-is_live.false)) refl c.requires.2,
)

pub returns : goal.returns
returns c = wrote-is _ _ _ _ _ _ (row-there _ _ _ (sym (c.is_live.ensures _) ∙ c.if-not-is_live.false)) c.put_row.ensures
