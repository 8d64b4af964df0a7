-- `slice::lack::is_open` meets its contract. Assumes nothing.
use mathlib.Core.Path.{sym, ap, ◌∙◌}
use mathlib.Core.Bool.{not}
use Rattle.slice.proofs.LackLaws.{open-blank, open_full}
use Rattle.slice.proofs.lack.is_open.Goals as goal

pub returns-then-not-is_blank : goal.returns-then-not-is_blank
returns-then-not-is_blank c = λ D x. open_full _ _ _ _ _ (sym c.is_blank.ensures ∙ c.if-not-is_blank.true) (c.is_known.ensures D x)

pub returns-else-not-is_blank : goal.returns-else-not-is_blank
returns-else-not-is_blank c = λ D x. ap not c.if-not-is_blank.false ∙ open-blank _ _ _ _ _ (sym c.is_blank.ensures ∙ c.if-not-is_blank.false)
