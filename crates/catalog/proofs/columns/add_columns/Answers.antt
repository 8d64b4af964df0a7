-- `catalog::columns::add_columns` meets its contract: after n turns the first n columns are listed. Assumes nothing.
use native.Mathlib.Omega.{arith}
use Rattle.catalog.proofs.ColumnLaws.{columns-start, columns-room, columns-turn, columns-end}
use Rattle.catalog.proofs.columns.add_columns.Goals as goal

pub loop-n-init : goal.loop-n-init
loop-n-init c = (omega arith, columns-start _ _ _ c.args.starts.now _ c.requires.keys_len.0 c.requires.keys_len.1 c.requires.keys_len.2 c.requires.keys_len.3)

pub add_column-m-requires : goal.add_column-m-requires
add_column-m-requires c = let s = c in
    let x = c.loop-n.invariant.1 in
    record { backed = s.requires.backed; place_bound = (omega arith, omega arith, x.keys-long, x.heads-long, x.next-long); table_bound = columns-room _ _ _ _ _ _ _ x c.loop-n-test.true }

pub overflow_cast-starts : goal.overflow_cast-starts
overflow_cast-starts c = omega (arith, c.add_column-m.ensures.listed.bound)

pub loop-n-preserved : goal.loop-n-preserved
loop-n-preserved c = (omega arith, columns-turn _ _ _ _ _ _ _ c.loop-n.invariant.1 c.loop-n-test.true _ _ _ _ c.add_column-m.ensures)

pub returns : goal.returns
returns c = (_, columns-end _ _ _ _ _ _ _ c.loop-n.invariant.0 c.loop-n-test.false c.loop-n.invariant.1)
