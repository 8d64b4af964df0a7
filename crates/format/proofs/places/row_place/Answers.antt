-- `format::places::row_place` meets its contract. Assumes nothing.
use native.Mathlib.Omega.{arith}
use mathlib.Core.List.{[]}
use mathlib.Core.Path.{◌∙◌}
use Rattle.format.proofs.Lengths.{issued-most, place_of}
use Rattle.format.proofs.places.row_place.Goals as goal

pub place_after-requires : goal.place_after-requires
place_after-requires c = let h = issued-most _ _ _ (c.issued_rows.ensures []) in (c.requires.0, c.requires.1, omega arith)

pub returns : goal.returns
returns c = λ numbers. c.place_after.ensures ∙ place_of _ _ _ _ (c.issued_rows.ensures numbers)
