-- How the value that would open a query is found by one load, and not by a load for each candidate: along the constraints turned round, from the rows
-- that would give a ground. That this finds it is a theorem (`proofs/Opens.antt`). Assumes nothing.
use Rattle.std.specs.Prelude.{false, ◌&&◌, ◌||◌}
use Rattle.finite.specs.Finite.{any}
use Rattle.model.specs.Cell.{Cell}
use Rattle.model.specs.Scheme.{Column, same_column, Constraint, Scheme}
use Rattle.model.specs.Database.{Database, has}
use Rattle.model.specs.Cache.{RowSet}
use Rattle.model.specs.Rounds.{reached, load}

-- from target to source
abbrev pub turned_round : Constraint → Constraint
turned_round j = record { source = j.target; target = j.source }

-- the scheme with each constraint turned round
unfoldable pub turned : Scheme → Scheme
turned S =
    record {
      tables = S.tables;
      columns = S.columns;
      unique = S.unique;
      constraints = S.constraints;
      constraint = λ i. turned_round (S.constraint i);
      fillings = S.fillings;
      filling = S.filling;
    }

-- row r, were it cached, would be ground 2 or ground 3 for v in column k
unfoldable pub gives : Scheme → Database → Column → Cell → RowSet
gives S D k v r =
    any S.constraints (λ i. same_column (S.constraint i).target k && has D (S.constraint i).source v r) || (S.unique k && has D k v r)

-- the rows from which constraints lead to a row of G
unfoldable pub leads_on : Scheme → Database → RowSet → RowSet
leads_on S D G = reached (load (turned S) D (λ _. false) G)
