-- `slice::accepted::fetch_fits` meets its contract. Assumes nothing.
use mathlib.Core.Path.{sym, ◌∙◌}
use Rattle.slice.proofs.AcceptedLaws.{fits-kind, fits-column, fits-number, fits-value, fits-span}
use Rattle.slice.proofs.accepted.fetch_fits.Goals as goal

pub returns-then-f-gt1 : goal.returns-then-f-gt1
returns-then-f-gt1 c = fits-kind _ _ c.if-f-gt1.true

pub returns-then-not-names_column : goal.returns-then-not-names_column
returns-then-not-names_column c = fits-column _ _ c.if-f-gt1.false (sym c.names_column.ensures ∙ c.if-not-names_column.true)

pub returns-then-f-lt1 : goal.returns-then-f-lt1
returns-then-f-lt1 c = fits-number _ _ c.if-f-gt1.false (sym c.names_column.ensures ∙ c.if-not-names_column.false) c.if-f-lt1.true

pub returns-then-f-eq0 : goal.returns-then-f-eq0
returns-then-f-eq0 c = fits-value _ _ c.if-f-gt1.false (sym c.names_column.ensures ∙ c.if-not-names_column.false) c.if-f-lt1.false c.if-f-eq0.true

pub returns : goal.returns
returns c = fits-span _ _ c.if-f-gt1.false (sym c.names_column.ensures ∙ c.if-not-names_column.false) c.if-f-lt1.false c.if-f-eq0.false
