-- The levels of a load over a database's rows, and what is read off them. Assumes nothing.
use Rattle.std.specs.Prelude.{ℕ, not, ◌&&◌, List, ◌++◌, drop}
use Rattle.finite.specs.Finite.{count}
use Rattle.model.specs.Database.{Database, has}
use Rattle.model.specs.Ranges.{has_range}
use Rattle.model.specs.Rounds.{reached, load}
use Rattle.model.specs.Runs.{marks, marked, reload_levels}
use Rattle.state.specs.declared.cell.Cell.{Cell}
use Rattle.state.specs.declared.design.Column.{Column}
use Rattle.state.specs.declared.design.Design.{Design}
use Rattle.state.specs.declared.held.Range.{Range}
use Rattle.state.specs.declared.held.Held.{Held}
use Rattle.state.specs.Meaning.{cell_of, column_of, range_of, scheme_of, holding_of}

-- a load of the value v in column k, beside the rows that m marks
unfoldable pub value_levels : Design → Database → List ℕ → Column → Cell → List ℕ
value_levels d D m k v = load (scheme_of d) D (marked m) (has D (column_of k) (cell_of v))

-- a load of the range q in column k, beside the rows that m marks
unfoldable pub span_levels : Design → Database → List ℕ → Column → Range → List ℕ
span_levels d D m k q = load (scheme_of d) D (marked m) (has_range D (column_of k) (range_of q))

-- a load of all that is held from nothing
unfoldable pub held_levels : Design → Database → Held → List ℕ
held_levels d D h = reload_levels (scheme_of d) D (holding_of h)

-- the marks of the rows that the load reached, before whatever lies past the old marks
unfoldable pub settled : Database → List ℕ → List ℕ → List ℕ
settled D L old = marks D (reached L) ++ drop 512 old

-- how many rows that m marks the load did not reach
unfoldable pub gone_rows : Database → List ℕ → List ℕ → ℕ
gone_rows D L m = count D.size (λ r. marked m r && not (reached L r))
