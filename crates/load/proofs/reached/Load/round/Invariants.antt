-- What the loops of `load::reached::Load::round` keep.
use Rattle.model.specs.Database.{Database}
use Rattle.catalog.specs.Catalog.{Demands}
use Prim.Native.Nat.{◌+◌, ◌≤◌}
use Rattle.finite.specs.Finite.{any}
use Rattle.model.specs.Rounds.{demands}
use Rattle.state.specs.Meaning.{scheme_of}
use Rattle.load.specs.Grows.{Grows}
use Rattle.load.specs.Walked.{Walked}
use Rattle.load.proofs.FrontLaws.{asks}
use Rattle.load.proofs.reached.Load.round.Given as goal

abbrev pub invariant-loop-i : goal.invariant-loop-i
invariant-loop-i l = (l.from ≤ l.i) ×
    (l.i ≤ l.i-end) ×
    ((D : Database) → Demands (scheme_of l.d) D l.catalog → Walked D l.initial.walked l.initial.self.levels →
    Grows (l.n + 3) (λ r. any l.i (λ j. asks (demands (scheme_of l.d) D) l.from l.initial.self.queue j r)) l.initial.self l.self × Walked D l.walked l.self.levels)
