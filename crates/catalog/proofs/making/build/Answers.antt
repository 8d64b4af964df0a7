-- `catalog::making::build` meets its contract: part by part. Assumes nothing.
use mathlib.Core.Path.{refl, sym, ap, ◌∙◌}
use native.Mathlib.Omega.{arith}
use Rattle.finite.proofs.Tables.{length-tab}
use lib.ListN.{length}
use Rattle.catalog.proofs.ColumnLaws.{columns-directory}
use Rattle.catalog.proofs.MakingLaws.{size-lent, indexed-made, catalogued-made}
use Rattle.catalog.proofs.making.build.Goals as goal

pub slice_bounds-store-end : goal.slice_bounds-store-end
slice_bounds-store-end c = sym (ap length c.settle.ensures ∙ length-tab 4096 _)

pub store-requires : goal.store-requires
store-requires c = (omega (arith, ap length c.settle.ensures ∙ length-tab 4096 _), refl)

pub store-requires-2 : goal.store-requires-2
store-requires-2 c = (omega (arith, c.add_columns.ensures.1.heads-long), c.store.ensures.long)

pub store-requires-3 : goal.store-requires-3
store-requires-3 c = (omega (arith, c.add_columns.ensures.1.starts-long), c.store-2.ensures.long ∙ c.store.ensures.long)

pub make_firsts-requires : goal.make_firsts-requires
make_firsts-requires c = let x = indexed-made _ _ _ _ _ _ _ refl (ap length c.settle.ensures ∙ length-tab 4096 _) c.add_columns.ensures.1.heads-long c.add_columns.ensures.1.starts-long c.store.ensures c.store-2.ensures c.store-3.ensures _ _ (size-lent _ _) c.settle.ensures (columns-directory _ _ _ _ _ _ c.add_columns.ensures.1) in
    record { in_range = (c.requires.0, c.requires.1, c.store-3.ensures.long ∙ c.store-2.ensures.long ∙ c.store.ensures.long); directory = x.directory }

pub returns : goal.returns
returns c = let x = indexed-made _ _ _ _ _ _ _ refl (ap length c.settle.ensures ∙ length-tab 4096 _) c.add_columns.ensures.1.heads-long c.add_columns.ensures.1.starts-long c.store.ensures c.store-2.ensures c.store-3.ensures _ _ (size-lent _ _) c.settle.ensures (columns-directory _ _ _ _ _ _ c.add_columns.ensures.1) in
    catalogued-made _ _ _ _ c.make_firsts.ensures _ x
