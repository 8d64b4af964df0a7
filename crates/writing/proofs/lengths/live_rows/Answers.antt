-- `writing::lengths::live_rows` meets its contract. Assumes nothing.
use mathlib.Core.Path.{refl}
use Rattle.std.proofs.Common.{rules}
use borrow.Author.Tests.{tests}
use Rattle.std.proofs.lemmas.Iterator.{YieldsList-from_range}
use Rattle.std.proofs.lemmas.Iterator.Consumers.{YieldsList-from_filter}
use Rattle.finite.proofs.Ranges.{count_in-range}
use Rattle.state.specs.Meaning.{database_of}
use Rattle.writing.proofs.lengths.live_rows.Goals as goal

pub returns : goal.returns
returns c = λ cells. count_in-range 512 _ c.filter.result _ c.count.ensures.ran
    (YieldsList-from_filter _ (database_of cells c.args.tables.now).live (YieldsList-from_range 0 512 512 (cc) refl) c.filter.ensures.closure (λ x r q k. search (rules, tests)))
