-- `format::reading::take_table` meets its contract: each early return is one refusal. Assumes nothing.
use mathlib.Core.Path.{refl, sym, ap, ◌∙◌}
use Rattle.std.specs.Prelude.{Err}
use Rattle.std.proofs.lemmas.Result.{err_from_is_err_and}
use Rattle.format.specs.Reading.{draft}
use Rattle.format.specs.Kinds.{count_of, most_of}
use Rattle.format.proofs.KindLaws.{item_refused, item-wrong, item-right, order-room}
use Rattle.format.proofs.AdvancesLaws.{advances-refused, advances-on, kept-all, table-item}
use Rattle.format.proofs.reading.take_table.Goals as goal

pub returns-in_err-in_order : goal.returns-in_err-in_order
returns-in_err-in_order c = λ s cells tables i. let p = err_from_is_err_and c.from_residual.result c.from_residual.ensures.1 in
    let r = c.in_order.ensures.refused _ c.in_err-in_order.was in
    advances-refused _ _ _ _ _ _ _ _ _ (p.1 ∙ ap Err p.2) refl (table-item _ _ _ _ ∙ item_refused _ _ 1 _ _ _ r.0 r.1) (kept-all _ _ _)

pub returns-then-not-table_fits : goal.returns-then-not-table_fits
returns-then-not-table_fits c = λ s cells tables i. advances-refused _ _ _ _ _ _ _ _ 5 refl refl
    (table-item _ _ _ _ ∙ item-wrong _ _ 1 _ _ _ (c.in_order.ensures.ordered c.in_ok-in_order.was) refl (sym c.table_fits.ensures ∙ c.if-not-table_fits.true))
    (kept-all _ _ _)

pub with_table-d-requires : goal.with_table-d-requires
unfolding count_of most_of
with_table-d-requires c = order-room _ _ 1 _ (c.in_order.ensures.ordered c.in_ok-in_order.was) refl

pub returns : goal.returns
returns c = λ s cells tables i. advances-on _ _ _ _ _ _ _ _ refl
    (table-item _ _ _ _ ∙ item-right _ _ 1 _ _ _ (c.in_order.ensures.ordered c.in_ok-in_order.was) refl _ (sym c.table_fits.ensures ∙ c.if-not-table_fits.false) (ap (λ x. draft x c.args.d.now.rows cells tables) (sym c.with_table-d.ensures)))
    (kept-all _ _ _)
