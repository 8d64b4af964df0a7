-- What the loops of `load::reached::Load::expand` keep.
use Prim.Native.Nat.{◌≤◌}
use Rattle.finite.specs.Finite.{any}
use Rattle.model.specs.Scheme.{Scheme}
use Rattle.model.specs.Database.{Database}
use Rattle.model.specs.Rounds.{leads}
use Rattle.catalog.specs.Catalog.{Demands}
use Rattle.load.specs.Grows.{Grows}
use Rattle.load.specs.Walked.{Walked}
use Rattle.load.proofs.PlaceLaws.{Targets}
use Rattle.load.proofs.reached.Load.expand.Given as goal

abbrev pub invariant-loop-i : goal.invariant-loop-i
invariant-loop-i l = (l.i ≤ l.i-end) ×
    ((S : Scheme) (D : Database) → Demands S D l.catalog → Targets S l.i-end l.places → Walked D l.initial.walked l.initial.self.levels →
    Grows l.to (λ r. any l.i (λ j. leads D (S.constraint j) l.s r)) l.initial.self l.self × Walked D l.walked l.self.levels)
