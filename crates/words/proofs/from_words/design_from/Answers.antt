-- `words::from_words::design_from` meets its contract: all places are read. Assumes nothing.
use native.Mathlib.Omega.{arith}
use Rattle.words.specs.Words.{table_from, constraint_from, filling_from}
use Rattle.state.specs.Design.{no_table, no_constraint, no_filling}
use Rattle.words.proofs.EmptyPlaces.{all_read}
use Rattle.words.proofs.from_words.design_from.Goals as goal

pub design_with-requires : goal.design_with-requires
design_with-requires c = let ws = c.args.words.now in (
  c.requires,
  omega arith,
  omega arith,
  omega arith,
  all_read 8 3 2 no_table table_from ws,
  all_read 16 19 4 no_constraint constraint_from ws,
  all_read 8 83 4 no_filling filling_from ws,
)
