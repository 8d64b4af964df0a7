-- `verdict::columns::is_once_unique` meets its contract: the column, then its table. Assumes nothing.
use Prim.Native.Nat.{ℕ}
use mathlib.Core.Bool.{false}
use mathlib.Core.Path.{sym, ap, ◌∙◌}
use lib.ListN.{get_or}
use Rattle.finite.proofs.Bools.{and-go, and-stop}
use Rattle.model.specs.Verdict.{once_unique}
use Rattle.verdict.proofs.ColumnLaws.{can-at}
use Rattle.verdict.proofs.columns.is_once_unique.Goals as goal

pub returns-else-is_unique : goal.returns-else-is_unique
unfolding once_unique
returns-else-is_unique c = c.if-is_unique.false ∙ and-stop _ _ (sym c.is_unique.ensures ∙ c.if-is_unique.false)

pub returns-then-is_unique : goal.returns-then-is_unique
unfolding once_unique
returns-then-is_unique c =
    and-go _ _ (sym c.is_unique.ensures ∙ c.if-is_unique.true) (ap (λ (t : ℕ). get_or c.args.can t false) c.from.ensures ∙ can-at _ _ _ c.requires.1 c.requires.0)
