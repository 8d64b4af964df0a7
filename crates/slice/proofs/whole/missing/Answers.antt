-- `slice::whole::missing` meets its contract: causes 7 and 12, then what the first words answer. Assumes nothing.
use mathlib.Core.Path.{sym, ◌∙◌}
use Rattle.guard.proofs.CauseWords.{cause-clear, own-sound}
use Rattle.slice.proofs.ReplyLaws.{reply-cause, reply-own}
use Rattle.slice.proofs.whole.missing.Goals as goal

pub returns-then-c-ne0 : goal.returns-then-c-ne0
returns-then-c-ne0 c = reply-cause _ _ _ _ _ _ _ _ c.cause-c.ensures.0 c.if-c-ne0.true

pub first_words-own-requires : goal.first_words-own-requires
first_words-own-requires c = (cause-clear _ _ (sym c.cause-c.ensures.0 ∙ c.if-c-ne0.false)).long

pub missing_catalogued-requires : goal.missing_catalogued-requires
missing_catalogued-requires c = (own-sound _ _ _ _ _ _ c.first_words-own.ensures _ c.cause-c.ensures.0 c.if-c-ne0.false, c.cause-c.ensures.1 c.if-c-ne0.false)

pub returns : goal.returns
returns c = reply-own _ _ _ _ _ _ _ _ c.cause-c.ensures.0 c.if-c-ne0.false _ c.first_words-own.ensures _ c.missing_catalogued.ensures
