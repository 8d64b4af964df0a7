-- The rows that the ranges of a desk want, and those of all desks. Assumes nothing.
use Rattle.finite.specs.Finite.{any}
use Rattle.model.specs.Scheme.{Scheme}
use Rattle.model.specs.Database.{Database}
use Rattle.model.specs.Cache.{RowSet}
use Rattle.model.specs.Ranges.{has_range}
use Rattle.model.specs.Holding.{desks}
use Rattle.state.specs.declared.held.DeskRanges.{DeskRanges}
use Rattle.state.specs.declared.held.Held.{Held}
use Rattle.state.specs.Held.{range_at, ranges_at}
use Rattle.state.specs.Meaning.{range_of}

abbrev pub desk_wants : Scheme → Database → DeskRanges → RowSet
desk_wants S D s r = any s.count (λ i. has_range D (S.filling (range_at s i).filling).column (range_of (range_at s i)) r)

abbrev pub desks_want : Scheme → Database → Held → RowSet
desks_want S D h r = any desks (λ e. desk_wants S D (ranges_at h e) r)
