-- `opener::reading::own_value` meets its contract: the column, then the candidates. Assumes nothing.
use mathlib.Core.Path.{refl, sym}
use Rattle.state.specs.Meaning.{cell_of, column_of, filling_of}
use Rattle.opener.proofs.ValueLaws.{own-elsewhere, own-there, reads-chosen}
use Rattle.opener.proofs.reading.own_value.Goals as goal

pub returns-then-not-same_column : goal.returns-then-not-same_column
returns-then-not-same_column c = own-elsewhere _ _ _ (sym c.if-not-same_column.ensures)

pub returns : goal.returns
returns c = reads-chosen (filling_of c.args.f) c.args.v _ _ _ c.requires c.is_candidate.ensures c.then_some.ensures
    (own-there (column_of c.args.k) (cell_of c.args.v) (filling_of c.args.f) (sym c.if-not-same_column.ensures) _ refl)
