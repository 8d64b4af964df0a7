-- `change::lending::put_row` meets its contract: causes 7 and 12, then the change of a sound state. Assumes nothing.
use mathlib.Core.Path.{sym, ◌∙◌}
use Rattle.state.specs.Changes.{put}
use Rattle.guard.proofs.CauseWords.{cause-clear, own-sound}
use Rattle.change.proofs.LendingLaws.{refused-words, changed-words}
use Rattle.change.proofs.lending.put_row.Goals as goal

pub returns-then-why-ne0 : goal.returns-then-why-ne0
returns-then-why-ne0 c = let s = c in refused-words _ s.args.held.now (put s.args.r s.args.x) _ c.cause-why.ensures.0 c.if-why-ne0.true

pub first_words-own-requires : goal.first_words-own-requires
first_words-own-requires c = (cause-clear _ _ (sym c.cause-why.ensures.0 ∙ c.if-why-ne0.false)).long

pub put_lawful-requires : goal.put_lawful-requires
put_lawful-requires c = (own-sound _ _ _ _ _ _ c.first_words-own.ensures _ c.cause-why.ensures.0 c.if-why-ne0.false, c.cause-why.ensures.1 c.if-why-ne0.false)

pub returns : goal.returns
returns c = let s = c in changed-words _ _ _ _ s.args.held.now _ c.first_words-own.ensures _ c.cause-why.ensures.0 c.if-why-ne0.false (put s.args.r s.args.x) _ _ _ _ c.put_lawful.ensures.changed
