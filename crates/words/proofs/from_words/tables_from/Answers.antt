-- `words::from_words::tables_from` meets its contract: each place gets what its words stand for. Assumes nothing.
use borrow.Author.Tests.{tests}
use Rattle.std.proofs.Common.{rules}
use Rattle.state.specs.Design.{no_table}
use Rattle.words.specs.Words.{table_from}
use Rattle.words.proofs.EmptyPlaces.{places-made}
use Rattle.words.proofs.from_words.tables_from.Goals as goal

pub returns : goal.returns
returns c = places-made 8 3 2 no_table table_from _ _ _ _ c.requires.2 (λ i x q l k. search (rules, tests)) c.from_fn.ensures.items
