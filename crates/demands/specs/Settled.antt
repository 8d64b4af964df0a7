-- What documents 01 and 02 ask of the answer to a probe, of a column of the design for a value other than blank, at a moment of a run and on the tables of that moment.
-- Assumes nothing.
use Rattle.std.specs.Prelude.{◌≡◌, ◌↔◌, ◌⊎◌, take}
use Rattle.model.specs.Cell.{Cell}
use Rattle.model.specs.Scheme.{Column}
use Rattle.model.specs.Probe.{probe, cached_rows}
use Rattle.model.specs.Holding.{held_in}
use Rattle.model.specs.Runs.{marked}
use Rattle.model.specs.Answers.{Answer, sent, ground_of, Yes}
use Rattle.model.specs.Demand.{Groundless, Unrefused}
use Rattle.state.specs.Meaning.{scheme_of}
use Rattle.state.specs.Lent.{State}
use Rattle.format.specs.Reading.{Draft}
use Rattle.run.specs.Moments.{Moment, tables_at}
use Rattle.run.specs.Runs.{CompleteInAll}
use Rattle.demands.specs.Queried.{cache_at}

-- x is the answer to a probe of column k for the value v, on the state e at the moment m of a run on the design p
pub record Settled (p : Draft) (m : Moment) (e : State) (k : Column) (v : Cell) (x : Answer) : Type 0 where
  -- it is no refusal: it is a yes or "sent"
  pub unrefused : Unrefused x
  pub either : Yes x ⊎ (x ≡ sent)
  -- 01: "The lowest that applies is the answer, a yes; if none does, "sent""; 02, Req 04: a yes carries "how many cached rows of the probed table have the value in the
  -- probed column"
  pub rule : x ≡ ground_of (probe (scheme_of p.design) (tables_at m) (held_in (scheme_of p.design) m.held) (marked (take 512 e.marks)) k v)
      (cached_rows (tables_at m) (marked (take 512 e.marks)) k v)
  -- demand 2: it is sent if and only if the probing rule finds no ground
  pub backend : (x ≡ sent) ↔ Groundless (scheme_of p.design) (tables_at m) (cache_at m e) k v
  -- demand 3: it is a yes exactly when the value is complete in every lawful database from which the same rows would have been cached
  pub exact : Yes x ↔ CompleteInAll p m (marked (take 512 e.marks)) k v
