-- `catalog::redirecting::drop_values` meets its contract. Assumes nothing.
use native.Mathlib.Omega.{arith}
use mathlib.Core.Path.{sym, ◌∙◌}
use Rattle.mend.proofs.RedirectLaws.{fetched-between, redirected}
use Rattle.mend.proofs.redirecting.drop_values.Goals as goal

pub drop_cells-requires : goal.drop_cells-requires
drop_cells-requires c = record { r_bound = c.requires.r_bound; links = c.requires.links.0; without = c.requires.without; directory = (fetched-between _ _ _ c.requires.links.0.long c.copy_from_slice.ensures.after c.copy_from_slice-2.ensures.after _ _ c.requires.links.1) }

pub slice_bounds-store-end : goal.slice_bounds-store-end
slice_bounds-store-end c = sym (c.drop_cells.ensures c.requires.without.0 c.requires.without.1).heads-long

pub store-requires : goal.store-requires
store-requires c = (omega (arith, (c.drop_cells.ensures c.requires.without.0 c.requires.without.1).heads-long), c.requires.links.0.long)

pub slice_bounds-store-end-2 : goal.slice_bounds-store-end-2
slice_bounds-store-end-2 c = sym (c.drop_cells.ensures c.requires.without.0 c.requires.without.1).starts-long

pub store-requires-2 : goal.store-requires-2
store-requires-2 c = (omega (arith, (c.drop_cells.ensures c.requires.without.0 c.requires.without.1).starts-long), c.store.ensures.long ∙ c.requires.links.0.long)

pub returns : goal.returns
returns c = λ E w. redirected _ _ _ _ _ c.requires.links.0.long c.store.ensures c.store-2.ensures _ _ (c.drop_cells.ensures E w)
