-- `format::reading::is_needless` meets its contract. Assumes nothing.
use mathlib.Core.Path.{◌∙◌}
use borrow.Author.Tests.{eq-eqb, ne_eqb}
use Rattle.finite.proofs.Bools.{and-go, and-stop}
use Rattle.format.specs.Reading.{needless}
use Rattle.format.proofs.reading.is_needless.Goals as goal

pub returns-then-script-at-eq7 : goal.returns-then-script-at-eq7
unfolding needless
returns-then-script-at-eq7 c = and-go _ _ (eq-eqb _ _ c.if-script-at-eq7.true) c.is_plain.ensures

pub returns-else-script-at-eq7 : goal.returns-else-script-at-eq7
unfolding needless
returns-else-script-at-eq7 c = let e = ne_eqb _ _ c.if-script-at-eq7.false in e ∙ and-stop _ _ e
