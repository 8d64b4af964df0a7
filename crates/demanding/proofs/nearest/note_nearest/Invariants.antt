-- What the loops of `demanding::nearest::note_nearest` keep.
use Rattle.demanding.proofs.DemandingLaws.{Noting}
use Rattle.demanding.specs.Demanding.{ByFirst, Demanding}
use Rattle.catalog.specs.Catalog.{Demands}
use Rattle.model.specs.Scheme.{Scheme}
use Rattle.model.specs.Database.{Database}
use lib.ListN.{get_or}
use mathlib.Core.Path.{◌≡◌}
use Prim.Native.Nat.{◌≤◌, ◌<◌}
use Rattle.demanding.proofs.nearest.note_nearest.Given as goal

abbrev pub invariant-loop-s : goal.invariant-loop-s
invariant-loop-s l = (l.s-index ≤ l.fn.reached.count) ×
    ((S : Scheme) (D : Database) (y : ByFirst S D l.levels l.i l.best) → Demands S D l.catalog → l.i < S.constraints → (S.constraint l.i).target.place ≡ l.place → Demanding S D l.levels l.i l.initial.near →
    Noting S D l.levels l.i l.initial.near l.best y (get_or l.fn.reached.rows l.s-index 0) l.near)
