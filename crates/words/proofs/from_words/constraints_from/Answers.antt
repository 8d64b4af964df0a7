-- `words::from_words::constraints_from` meets its contract: each place gets what its words stand for. Assumes nothing.
use borrow.Author.Tests.{tests}
use Rattle.std.proofs.Common.{rules}
use Rattle.state.specs.Design.{no_constraint}
use Rattle.words.specs.Words.{constraint_from}
use Rattle.words.proofs.EmptyPlaces.{places-made}
use Rattle.words.proofs.from_words.constraints_from.Goals as goal

pub returns : goal.returns
returns c = places-made 16 19 4 no_constraint constraint_from _ _ _ _ c.requires.2 (λ i x q l k. search (rules, tests)) c.from_fn.ensures.items
