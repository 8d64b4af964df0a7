-- `run::runs::run` meets its contract: the run that leaves a catalog too. Assumes nothing.
use Rattle.run.proofs.runs.run.Goals as goal

pub returns : goal.returns
returns c = c.run_catalogued.ensures.ran
