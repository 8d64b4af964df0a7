-- What the loops of `load::reached::Load::run` keep.
use Rattle.model.proofs.RoundsEnd.{Running}
use Rattle.model.specs.Database.{Database}
use Rattle.catalog.specs.Catalog.{Demands}
use Prim.Native.Nat.{◌+◌, ◌≤◌}
use Rattle.state.specs.Meaning.{scheme_of}
use Rattle.load.specs.Queue.{Front}
use Rattle.load.specs.Walked.{Walked}
use Rattle.load.proofs.reached.Load.run.Given as goal

abbrev pub invariant-loop-n : goal.invariant-loop-n
invariant-loop-n l = (l.n ≤ 512) ×
    ((D : Database) → Demands (scheme_of l.d) D l.catalog → Walked D l.initial.walked l.initial.self.levels →
    Running (scheme_of l.d) D l.initial.self.levels l.n l.self.levels ×
    Front (l.n + 2) l.self.levels l.self.queue l.from l.self.end ×
    Walked D l.walked l.self.levels)
