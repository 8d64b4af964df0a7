-- What the loops of `load::reached::Load::add_all_ranges` keep.
use Prim.Native.Nat.{◌≤◌}
use Rattle.finite.specs.Finite.{any}
use Rattle.model.specs.Database.{Database}
use Rattle.state.specs.Held.{ranges_at}
use Rattle.state.specs.HeldWords.{words_held}
use Rattle.state.specs.Meaning.{scheme_of}
use Rattle.catalog.specs.Catalog.{Indexed}
use Rattle.load.specs.Grows.{Grows}
use Rattle.load.specs.Ranges.{desk_wants}
use Rattle.load.proofs.reached.Load.add_all_ranges.Given as goal

abbrev pub invariant-loop-desk : goal.invariant-loop-desk
invariant-loop-desk l = (l.desk ≤ 4) ×
    ((D : Database) → Indexed D l.index.catalog.now l.index.keys.now → Grows 2 (λ r. any l.desk (λ x. desk_wants (scheme_of l.d) D (ranges_at (words_held l.held) x) r)) l.initial.self l.self)
