-- `catalog::listing::add_column` meets its contract: once the numbers from r on have been passed, the rows from r on are in. Assumes nothing.
use native.Mathlib.Omega.{arith}
use mathlib.Core.Path.{◌∙◌}
use Rattle.catalog.proofs.PutLaws.{added_none, added-listed, added-room, added-turn, added-end}
use Rattle.catalog.proofs.Rows.{dead-at}
use Rattle.catalog.proofs.listing.add_column.Goals as goal

pub loop-r-init : goal.loop-r-init
loop-r-init c = (omega arith, added_none _ _ _ _ _ _ _ _ (omega arith) c.requires.table_bound (λ s l. dead-at _ _ s l))

pub put-m-requires : goal.put-m-requires
put-m-requires c = let s = c in
    let b = s.requires.place_bound in
    let x = c.loop-r.invariant.1 in
    let t = c.loop-r-test.true in record { backed = s.requires.backed; place_bound = (b.0, b.1, omega (arith, t), x.keys-long ∙ b.2, x.heads-long ∙ b.3, x.next-long ∙ b.4); listed = added-listed _ _ _ _ _ _ _ _ _ _ _ _ _ x (omega (arith, c.loop-r-test.true)); table_bound = added-room _ _ _ _ _ _ _ _ _ _ _ _ _ x (omega (arith, c.loop-r-test.true)) s.requires.table_bound }

pub loop-r-preserved : goal.loop-r-preserved
loop-r-preserved c = let s = c in
    let x = c.loop-r.invariant.1 in
    (omega arith, added-turn _ _ _ _ _ _ _ _ _ _ _ _ _ x (omega (arith, c.loop-r-test.true)) s.requires.place_bound.0 _ _ _ _ c.put-m.ensures)

pub returns : goal.returns
returns c = added-end _ _ _ _ _ _ _ _ _ _ _ _ (omega arith) c.loop-r.invariant.1
