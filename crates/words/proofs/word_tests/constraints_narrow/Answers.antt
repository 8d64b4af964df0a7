-- `words::word_tests::constraints_narrow` meets its contract. Assumes nothing.
use mathlib.Core.Path.{refl}
use borrow.Author.Tests.{tests}
use Rattle.std.proofs.Common.{rules}
use Rattle.std.proofs.lemmas.Iterator.{YieldsList-from_range}
use Rattle.finite.proofs.Ranges.{all_in-range}
use Rattle.words.proofs.word_tests.constraints_narrow.Goals as goal

pub returns : goal.returns
returns c = all_in-range 16 _ _ _ _ c.all.ensures.ran (YieldsList-from_range 0 16 16 (cc) refl) (λ x b q k. search (rules, tests))
