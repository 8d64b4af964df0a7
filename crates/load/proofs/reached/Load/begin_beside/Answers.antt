-- `load::reached::Load::begin_beside` meets its contract: the levels of the cached rows. Assumes nothing.
use Rattle.model.specs.Runs.{marked}
use Rattle.load.proofs.StartLaws.{cached-added, cached-long}
use Rattle.load.proofs.reached.Load.begin_beside.Goals as goal

pub invariant_of-self : goal.invariant_of-self
invariant_of-self c = let X = marked c.args.marks.now in
    let e = c.cached_levels.ensures in
    record { long = cached-long X _ e; listed = rw c.requires.1 (cached-added X _ e _ c.args.self.now.listed.long) }
