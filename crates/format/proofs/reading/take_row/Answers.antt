-- `format::reading::take_row` meets its contract: the row is put in, then each early return is one refusal. Assumes nothing.
use native.Mathlib.Omega.{arith}
use mathlib.Core.Path.{refl, sym, ap, ap₂, ◌∙◌}
use borrow.Author.Rules.{rules}
use lib.ListN.{length-set}
use Rattle.state.specs.Cells.{cells_in}
use Rattle.std.specs.Prelude.{Err}
use Rattle.std.proofs.lemmas.Result.{err_from_is_err_and}
use Rattle.format.specs.Kinds.{count_of, most_of}
use Rattle.format.proofs.KindLaws.{order-room}
use Rattle.format.proofs.AdvancesLaws.{advances-refused, advances-on, row-late, row-needless, row-unfit, row-taken, row_put, kept-all, kept_put}
use Rattle.format.proofs.reading.take_row.Goals as goal

pub returns-in_err-in_order : goal.returns-in_err-in_order
returns-in_err-in_order c = let p = err_from_is_err_and c.from_residual.result c.from_residual.ensures.1 in
    let r = c.in_order.ensures.refused _ c.in_err-in_order.was in
    advances-refused _ _ _ _ _ _ _ _ _ (p.1 ∙ ap Err p.2) refl (row-late _ _ _ _ _ r.0 r.1) (kept-all _ _ _)

pub is_needless-requires : goal.is_needless-requires
is_needless-requires c = (omega arith, c.requires.1)

pub returns-then-is_needless : goal.returns-then-is_needless
returns-then-is_needless c = advances-refused _ _ _ _ _ _ _ _ 5 refl refl
    (row-needless _ _ _ _ _ (c.in_order.ensures.ordered c.in_ok-in_order.was) refl (sym c.is_needless.ensures ∙ c.if-is_needless.true)) (kept-all _ _ _)

pub store_cells-requires : goal.store_cells-requires
unfolding count_of most_of
store_cells-requires c = let l = order-room _ _ 4 _ (c.in_order.ensures.ordered c.in_ok-in_order.was) refl in search rules

pub store_issues-requires : goal.store_issues-requires
unfolding count_of most_of
store_issues-requires c = let l = order-room _ _ 4 _ (c.in_order.ensures.ordered c.in_ok-in_order.was) refl in (omega arith, omega arith, c.requires.1, omega arith)

pub bounds-tables-rows : goal.bounds-tables-rows
unfolding count_of most_of
bounds-tables-rows c = let l = order-room _ _ 4 _ (c.in_order.ensures.ordered c.in_ok-in_order.was) refl in omega arith

pub row_fits-requires : goal.row_fits-requires
unfolding count_of most_of
row_fits-requires c = let l = order-room _ _ 4 _ (c.in_order.ensures.ordered c.in_ok-in_order.was) refl in (
  omega arith,
  record {
    rows = omega (arith, c.store_cells.auto);
    issued = omega (arith, c.store_issues.auto);
    members = simp length-set (omega arith);
  },
)

pub returns-then-not-row_fits : goal.returns-then-not-row_fits
returns-then-not-row_fits c = let e = ap₂ cells_in c.store_cells.ensures c.store_issues.ensures in
    advances-refused _ _ _ _ _ _ _ _ 5 refl refl
    (row-unfit _ _ _ _ _ (c.in_order.ensures.ordered c.in_ok-in_order.was) refl _ (row_put _ _ _ _ _ e)
    (sym c.row_fits.ensures ∙ c.if-not-row_fits.true))
    (kept_put _ _ _ _ _ _ _ e)

pub overflow_add-d : goal.overflow_add-d
unfolding count_of most_of
overflow_add-d c = let l = order-room _ _ 4 _ (c.in_order.ensures.ordered c.in_ok-in_order.was) refl in search rules

pub returns : goal.returns
returns c = let e = ap₂ cells_in c.store_cells.ensures c.store_issues.ensures in
    advances-on _ _ _ _ _ _ _ _ refl
    (row-taken _ _ _ _ _ (c.in_order.ensures.ordered c.in_ok-in_order.was) refl _ (row_put _ _ _ _ _ e)
    (sym c.is_needless.ensures ∙ c.if-is_needless.false) (sym c.row_fits.ensures ∙ c.if-not-row_fits.false))
    (kept_put _ _ _ _ _ _ _ e)
