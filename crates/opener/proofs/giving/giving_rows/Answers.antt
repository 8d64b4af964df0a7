-- `opener::giving::giving_rows` meets its contract. Assumes nothing.
use Rattle.opener.proofs.MarkingLaws.{mark-all, mark-not, mark-both}
use Rattle.state.specs.Meaning.{cell_of, column_of, scheme_of}
use Rattle.model.specs.Database.{has}
use Rattle.model.specs.Turned as Turned
use Rattle.finite.proofs.Tables.{tab-same}
use mathlib.Core.Path.{refl, sym, ◌∙◌}
use Rattle.opener.proofs.giving.giving_rows.Goals as goal

pub returns-then-is_unique : goal.returns-then-is_unique
unfolding Turned.gives scheme_of
returns-then-is_unique c = λ D x.
    mark-both _ _ _ _ c.source_rows.ensures.0 (c.source_rows.ensures.1 D x)
    (mark-all _ (has D (column_of c.args.k) (cell_of c.args.v)) _ _ _ refl (sym c.if-is_unique.ensures) (c.mark_having.ensures D x c.source_rows.ensures.0))
    ∙ tab-same 512 _ _ (λ r _. refl)

pub returns-else-is_unique : goal.returns-else-is_unique
unfolding Turned.gives scheme_of
returns-else-is_unique c = λ D x.
    mark-both _ _ _ _ c.source_rows.ensures.0 (c.source_rows.ensures.1 D x) (mark-not _ (has D (column_of c.args.k) (cell_of c.args.v)) _ _ refl (sym c.if-is_unique.ensures))
    ∙ tab-same 512 _ _ (λ r _. refl)
