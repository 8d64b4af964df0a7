-- `catalog::redirecting::add_values` meets its contract. Assumes nothing.
use native.Mathlib.Omega.{arith}
use mathlib.Core.Path.{sym, ap, ◌∙◌}
use lib.ListN.{get_or}
use Rattle.mend.proofs.RedirectLaws.{fetched-starts, fetched-between, redirected}
use mathlib.Core.List.{List}
use Prim.Native.Nat.{ℕ}
use Rattle.mend.proofs.redirecting.add_values.Goals as goal

pub put_cells-requires : goal.put_cells-requires
put_cells-requires c = record { r_bound = (c.requires.r_bound.0, c.requires.r_bound.1, c.requires.r_bound.2, omega (arith, ap (λ (s : List ℕ). get_or s 64 0) (fetched-starts _ _ _ c.requires.r_bound.4 c.copy_from_slice.ensures.after c.copy_from_slice-2.ensures.after), c.requires.r_bound.3)); without = (c.requires.without.0, c.requires.without.1, (fetched-between _ _ _ c.requires.r_bound.4 c.copy_from_slice.ensures.after c.copy_from_slice-2.ensures.after _ _ c.requires.without.2)) }

pub slice_bounds-store-end : goal.slice_bounds-store-end
slice_bounds-store-end c = sym (c.put_cells.ensures c.requires.without.0 c.requires.without.1 (fetched-between _ _ _ c.requires.r_bound.4 c.copy_from_slice.ensures.after c.copy_from_slice-2.ensures.after _ _ c.requires.without.2)).heads-long

pub store-requires : goal.store-requires
store-requires c = (omega (arith, (c.put_cells.ensures c.requires.without.0 c.requires.without.1 (fetched-between _ _ _ c.requires.r_bound.4 c.copy_from_slice.ensures.after c.copy_from_slice-2.ensures.after _ _ c.requires.without.2)).heads-long), c.requires.r_bound.4)

pub slice_bounds-store-end-2 : goal.slice_bounds-store-end-2
slice_bounds-store-end-2 c = sym (c.put_cells.ensures c.requires.without.0 c.requires.without.1 (fetched-between _ _ _ c.requires.r_bound.4 c.copy_from_slice.ensures.after c.copy_from_slice-2.ensures.after _ _ c.requires.without.2)).starts-long

pub store-requires-2 : goal.store-requires-2
store-requires-2 c = (omega (arith, (c.put_cells.ensures c.requires.without.0 c.requires.without.1 (fetched-between _ _ _ c.requires.r_bound.4 c.copy_from_slice.ensures.after c.copy_from_slice-2.ensures.after _ _ c.requires.without.2)).starts-long), c.store.ensures.long ∙ c.requires.r_bound.4)

pub returns : goal.returns
returns c = λ E w d. redirected _ _ _ _ _ c.requires.r_bound.4 c.store.ensures c.store-2.ensures _ _ (c.put_cells.ensures E w (fetched-between _ _ _ c.requires.r_bound.4 c.copy_from_slice.ensures.after c.copy_from_slice-2.ensures.after _ _ d))
