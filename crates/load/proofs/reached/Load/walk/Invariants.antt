-- What the loops of `load::reached::Load::walk` keep.
use Prim.Native.Nat.{◌-◌}
use Rattle.model.specs.Database.{Database}
use Rattle.catalog.specs.Catalog.{Links}
use Rattle.load.specs.Walked.{Begins, along}
use Rattle.load.proofs.WalkLaws.{Walking}
use Rattle.load.proofs.reached.Load.walk.Given as goal

abbrev pub invariant-loop-r : goal.invariant-loop-r
invariant-loop-r l = (D : Database) → Links D l.catalog → Begins D l.place l.from → Walking l.to (along D l.place l.from) l.initial.self.levels l.initial.self.queue l.initial.self.end l.r l.self.levels l.self.queue l.self.end

abbrev pub decreases-loop-r : goal.decreases-loop-r
decreases-loop-r l = 512 - l.r
