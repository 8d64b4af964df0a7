-- What the loops of `load::reached::Load::begin_rows` keep.
use Prim.Native.Nat.{◌≤◌}
use Rattle.finite.specs.Finite.{any}
use Rattle.load.specs.Grows.{Grows}
use Rattle.load.proofs.SeedLaws.{seeds}
use Rattle.load.proofs.reached.Load.begin_rows.Given as goal

abbrev pub invariant-loop-r : goal.invariant-loop-r
invariant-loop-r l = (l.r ≤ 512) × Grows 2 (λ s. any l.r (λ j. seeds l.seed j s)) l.initial.self l.self
