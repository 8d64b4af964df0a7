-- `verdict::words::word_of` meets its contract. Assumes nothing.
use mathlib.Core.Path.{sym, ◌∙◌}
use Rattle.state.specs.Meaning.{scheme_of}
use Rattle.verdict.proofs.ColumnLaws.{no-column, column-word}
use Rattle.verdict.proofs.words.word_of.Goals as goal

pub returns-then-not-is_column : goal.returns-then-not-is_column
returns-then-not-is_column c = no-column _ _ (sym c.is_column.ensures ∙ c.if-not-is_column.true)

pub returns : goal.returns
unfolding scheme_of
returns c = column-word _ _ _ (sym c.is_column.ensures ∙ c.if-not-is_column.false) c.is_filled-f.ensures c.lowest_link-l.ensures c.is_once_unique-u.ensures c.is_one_column-o.ensures c.word_with.ensures
