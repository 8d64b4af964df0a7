-- `verdict::words::words_of` meets its contract: each column in turn. Assumes nothing.
use Rattle.std.proofs.Common.{rules}
use borrow.Author.Tests.{tests}
use Rattle.verdict.specs.Words.{verdict_words}
use Rattle.finite.proofs.Made.{tab_from-fn}
use Rattle.verdict.proofs.words.words_of.Goals as goal

pub returns : goal.returns
unfolding verdict_words
returns c = tab_from-fn 0 _ c.from_fn.ensures.items (λ i y q l k. search (rules, tests))
