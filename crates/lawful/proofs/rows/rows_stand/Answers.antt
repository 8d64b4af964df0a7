use Rattle.std.proofs.Common.{rules}
use borrow.Author.Tests.{tests}
use mathlib.Core.Path.{refl}
use Rattle.std.proofs.lemmas.Iterator.{YieldsList-from_range}
use Rattle.finite.proofs.Ranges.{all_in-range}
use Rattle.lawful.specs.Parts.{rows_stand}
use Rattle.lawful.proofs.rows.rows_stand.Goals as goal

pub returns : goal.returns
unfolding rows_stand
returns c = all_in-range 512 _ _ _ _ c.all.ensures.ran (YieldsList-from_range 0 512 512 (cc) refl) (λ x b q k. search (rules, tests))
