-- `load::outcome::marks_agree` meets its contract. Assumes nothing.
use mathlib.Core.Path.{refl}
use Rattle.std.proofs.Common.{rules}
use Rattle.std.proofs.lemmas.Iterator.{YieldsList-from_range}
use Rattle.finite.proofs.Ranges.{all_in-range}
use borrow.Author.Tests.{tests}
use Rattle.model.specs.Rounds.{reached}
use Rattle.load.proofs.outcome.marks_agree.Goals as goal

pub returns : goal.returns
unfolding reached
returns c = all_in-range 512 _ _ _ _ c.all.ensures.ran (YieldsList-from_range 0 512 512 (cc) refl) (λ x b q k. search (rules, tests))
