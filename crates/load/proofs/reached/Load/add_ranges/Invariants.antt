-- What the loops of `load::reached::Load::add_ranges` keep.
use Prim.Native.Nat.{◌≤◌}
use lib.ListN.{get_or}
use Rattle.finite.specs.Finite.{any}
use Rattle.model.specs.Database.{Database}
use Rattle.model.specs.Ranges.{has_range}
use Rattle.state.specs.Design.{no_filling}
use Rattle.state.specs.Held.{range_at, ranges_at}
use Rattle.state.specs.HeldWords.{words_held}
use Rattle.state.specs.Meaning.{column_of, range_of}
use Rattle.catalog.specs.Catalog.{Indexed}
use Rattle.load.specs.Grows.{Grows}
use Rattle.load.proofs.reached.Load.add_ranges.Given as goal

abbrev pub invariant-loop-i : goal.invariant-loop-i
invariant-loop-i l = (l.i ≤ l.i-end) ×
    ((D : Database) → Indexed D l.index.catalog.now l.index.keys.now →
    Grows 2
    (λ r. any l.i (λ j. has_range D (column_of (get_or l.filling (range_at (ranges_at (words_held l.held) l.desk) j).filling no_filling).column) (range_of (range_at (ranges_at (words_held l.held) l.desk) j)) r))
    l.initial.self l.self)
