-- The moments of a run: the tables and what is held, as they follow from the design and the operands (01, "Runs"; 02, Req 12: "What must hold at every point of a
-- run is judged on the tables of that moment, which follow from the design and the operands by the rules here"). Assumes nothing.
use Rattle.std.specs.Prelude.{List, [], ◌∷◌}
use Rattle.model.specs.Scheme.{Scheme}
use Rattle.model.specs.Database.{Database}
use Rattle.model.specs.Holding.{Holding}
use Rattle.model.specs.Runs.{Operation, held_after}
use Rattle.state.specs.Changes.{Change, Rows, tables_of, rows_after}

-- what a run is a list of: operations, which leave the rows as they are, and changes of the rows, which leave the list of what is held as it is
pub data Action : Type 0 where
  operation : Operation → Action
  change : Change → Action

-- the rows and what is held, at some point of a run
pub record Moment : Type 0 where
  pub rows : Rows
  pub held : Holding

-- the tables of that moment
abbrev pub tables_at : Moment → Database
tables_at m = tables_of m.rows

unfoldable pub moment_after : Scheme → Moment → Action → Moment
moment_after S m (operation o) = record { rows = m.rows; held = held_after S (tables_at m) m.held o }
moment_after S m (change x) = record { rows = rows_after S m.rows x; held = m.held }

-- after a run
unfoldable pub moment_from : Scheme → Moment → List Action → Moment
moment_from S m [] = m
moment_from S m (a ∷ more) = moment_from S (moment_after S m a) more
