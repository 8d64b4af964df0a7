-- `lawful::held::own_count` meets its contract: a 1 for each of the desk's values. Assumes nothing.
use native.Mathlib.Omega.{arith}
use Rattle.std.proofs.Common.{rules}
use borrow.Author.Tests.{tests}
use mathlib.Core.Bool.{cond}
use lib.Dec.{eqb}
use Rattle.std.proofs.lemmas.Iterator.{YieldsList-from_map, YieldsList-from_range}
use Rattle.std.proofs.lemmas.Iterator.Consumers.{YieldsList-at}
use Rattle.finite.proofs.Ranges.{sum_in-range, sum_fits-range}
use Rattle.state.specs.Held.{held_at}
use Rattle.state.specs.HeldWords.{words_held}
use Rattle.state.specs.Lawful.{own_count}
use Rattle.lawful.proofs.held.own_count.Goals as goal

pub sum-requires-clause-fits : goal.sum-requires-clause-fits
sum-requires-clause-fits c = let n = (words_held c.args.held.now).count in
    sum_fits-range n (λ i. eqb (held_at (words_held c.args.held.now) i).desk c.args.desk) c.map.result (YieldsList-from_map _ (λ i. cond (eqb (held_at (words_held c.args.held.now) i).desk c.args.desk) 1 0) (YieldsList-at c.map.ensures.source (YieldsList-from_range 0 n n (cc) (omega arith))) c.map.ensures.closure (λ x r q k. search (rules, tests))) _ (omega arith)

pub returns : goal.returns
unfolding own_count
returns c = let n = (words_held c.args.held.now).count in
    sum_in-range n (λ i. eqb (held_at (words_held c.args.held.now) i).desk c.args.desk) c.map.result (YieldsList-from_map _ (λ i. cond (eqb (held_at (words_held c.args.held.now) i).desk c.args.desk) 1 0) (YieldsList-at c.map.ensures.source (YieldsList-from_range 0 n n (cc) (omega arith))) c.map.ensures.closure (λ x r q k. search (rules, tests))) _ c.sum.ensures.ran
