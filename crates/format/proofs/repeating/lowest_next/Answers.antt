-- `format::repeating::lowest_next` meets its contract: the lowest of the cells passed. Assumes nothing.
use Prim.Native.Nat.{◌*◌}
use native.Mathlib.Omega.{arith}
use mathlib.Core.Path.{◌∙◌}
use borrow.Author.Tests.{tests}
use Rattle.std.proofs.Common.{rules}
use Rattle.std.proofs.lemmas.Iterator.{YieldsList-from_range}
use Rattle.std.proofs.lemmas.Iterator.Consumers.{fold_from_yields_List}
use Rattle.format.specs.Admitting.{unique_next, lower}
use Rattle.catalog.specs.Catalog.{nexts}
use Rattle.format.proofs.RepeatLaws.{lowest-fold, min-lower}
use Rattle.format.proofs.repeating.lowest_next.Goals as goal

pub returns : goal.returns
returns c = λ D y.
    let n = 8 * c.args.rows in
    fold_from_yields_List _ (λ r x. lower r (unique_next c.args.d c.args.tables.now (nexts D) x)) _ _ c.fold.ensures.ran (YieldsList-from_range 0 n n (cc) (omega arith))
    (λ a x b q k. let e = min-lower a (unique_next c.args.d c.args.tables.now (nexts D) x) in search (rules, tests)) ∙ lowest-fold (unique_next c.args.d c.args.tables.now (nexts D)) n
