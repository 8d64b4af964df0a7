-- `verdict::columns::links_to` meets its contract: the target, then the source's table. Assumes nothing.
use Prim.Native.Nat.{ℕ}
use native.Mathlib.Omega.{arith}
use mathlib.Core.Bool.{false}
use mathlib.Core.Path.{sym, ap, ◌∙◌}
use lib.ListN.{get_or}
use Rattle.finite.proofs.Bools.{and-go, and-stop}
use Rattle.model.specs.Verdict.{links_to}
use Rattle.state.specs.Meaning.{scheme_of}
use Rattle.verdict.proofs.ColumnLaws.{can-at}
use Rattle.verdict.proofs.columns.links_to.Goals as goal

pub returns-else-same_column : goal.returns-else-same_column
unfolding links_to scheme_of
returns-else-same_column c = c.if-same_column.false ∙ and-stop _ _ (sym c.same_column.ensures ∙ c.if-same_column.false)

pub bounds-can-from : goal.bounds-can-from
bounds-can-from c = let i = c.args.i in omega (arith, c.from.ensures, c.requires.0.source-table i, c.requires.0.target-table i)

pub returns-then-same_column : goal.returns-then-same_column
unfolding links_to scheme_of
returns-then-same_column c =
    and-go _ _ (sym c.same_column.ensures ∙ c.if-same_column.true)
    (ap (λ (t : ℕ). get_or c.args.can t false) c.from.ensures ∙ can-at _ _ _ c.requires.2 (c.requires.0.source-table _))
