-- `slice::accepted::names_column` meets its contract. Assumes nothing.
use mathlib.Core.Path.{ap, ◌∙◌}
use borrow.Author.Tests.{le-ltb}
use lib.Dec.{ltb}
use Rattle.state.specs.declared.design.Table.{Table}
use Rattle.state.specs.Meaning.{scheme_of}
use Rattle.slice.proofs.AcceptedLaws.{past-tables, within-tables}
use Rattle.slice.proofs.accepted.names_column.Goals as goal

pub returns-then-t-d : goal.returns-then-t-d
unfolding scheme_of
returns-then-t-d c = let s = c in within-tables (scheme_of s.args.d) s.args.f c.if-t-d.true (ap (ltb s.args.f.column) (c.from.ensures ∙ ap (λ (t : Table). t.columns) c.table_at.ensures))

pub returns-else-t-d : goal.returns-else-t-d
unfolding scheme_of
returns-else-t-d c = let s = c in le-ltb _ _ c.if-t-d.false ∙ past-tables (scheme_of s.args.d) s.args.f c.if-t-d.false
