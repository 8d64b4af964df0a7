use Rattle.std.proofs.Common.{rules}
use borrow.Author.Tests.{tests}
use mathlib.Core.Path.{refl}
use Rattle.std.proofs.lemmas.Iterator.{YieldsList-from_range}
use mathlib.Core.Bool.{not, ◌&&◌}
use lib.Dec.{eqb, ltb}
use lib.ListN.{get_or}
use Rattle.std.proofs.lemmas.Iterator.Consumers.{YieldsList-from_filter}
use Rattle.finite.proofs.Ranges.{count_in-range}
use Rattle.model.specs.Rounds.{reached}
use Rattle.model.specs.Runs.{marked}
use Rattle.change.proofs.counting.rows_went.Goals as goal

pub returns : goal.returns
unfolding reached marked
returns c = count_in-range 512 _ c.filter.result _ c.count.ensures.ran
    (YieldsList-from_filter _ (λ i. eqb (get_or c.args.marks.now i 0) 1 && not (ltb 0 (get_or c.args.levels.now i 0))) (YieldsList-from_range 0 512 512 (cc) refl) c.filter.ensures.closure (λ x r q k. search (rules, tests)))
