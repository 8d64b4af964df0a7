-- `format::opening::read_catalogued` meets its contract: a refusal leaves the catalog's arrays, an accepted design's catalog is copied out.
-- Assumes nothing.
use mathlib.Core.Path.{refl}
use Rattle.format.proofs.Verdicts.{opens-refused, keeps-accepted}
use Rattle.format.proofs.opening.read_catalogued.Goals as goal

pub returns-in_default : goal.returns-in_default
returns-in_default c = record {
  leaves = c.read_lent-r.ensures.leaves;
  opens = opens-refused _ _ _ _ c.in_default.is _ _ _ _;
  keeps = record { catalog = λ n i e. refl; keys = λ n i e. refl };
}

pub returns-in-Accepted : goal.returns-in-Accepted
returns-in-Accepted c = record {
  leaves = c.read_lent-r.ensures.leaves;
  opens = c.read_lent-r.ensures.opens;
  keeps = keeps-accepted _ _ c.in-Accepted.is _ _ _ _;
}
