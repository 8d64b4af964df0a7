-- `catalog::firsts::add_firsts` meets its contract: a table is stored. Assumes nothing.
use native.Mathlib.Omega.{arith}
use lib.ListN.{length}
use mathlib.Core.Path.{ap, ◌∙◌}
use Prim.Native.Nat.{◌*◌}
use lib.Seq.{sets}
use Rattle.std.proofs.Common.{rules}
use borrow.Author.Tests.{tests}
use Rattle.finite.proofs.Made.{tab_from-fn}
use Rattle.catalog.proofs.PartLaws.{put-sets}
use Rattle.catalog.proofs.firsts.add_firsts.Goals as goal

pub returns : goal.returns
returns c = let s = c in
    let n = ap length s.copy_from_slice.ensures.after ∙ s.from_fn-rows.ensures.items.long in
    put-sets (512 * s.args.i) _ s.args.first.now _ (omega (arith, n, s.requires.i_bound.0)) (omega (arith, n))
    ∙ ap (sets s.args.first.now (512 * s.args.i)) (s.copy_from_slice.ensures.after ∙ tab_from-fn 0 _ s.from_fn-rows.ensures.items (λ i y q l k. search (rules, tests)))
