-- What an operation of `cache` asks, from a sound state and its catalog. Assumes nothing.
use Prim.Native.Nat.{ℕ}
use mathlib.Core.Path.{◌≡◌}
use mathlib.Core.Bool.{true}
use mathlib.Core.List.{List}
use Rattle.state.specs.Cells.{Cells}
use Rattle.state.specs.declared.design.Design.{Design}
use Rattle.state.specs.declared.held.Held.{Held}
use Rattle.state.specs.Meaning.{scheme_of, database_of}
use Rattle.state.specs.Lent.{lent, sound}
use Rattle.catalog.specs.Catalog.{Catalogued}
use Rattle.cache.specs.Ready.{Ready}

pub ready : (d : Design) (cells : Cells) (tables m : List ℕ) (h : Held) (catalog keys : List ℕ) → sound (lent d cells tables m h) ≡ true →
    Catalogued (scheme_of d) (database_of cells tables) catalog keys → Ready d cells tables m h catalog keys
ready d cells tables m h catalog keys e x = record { sound-is = e; catalogued = x }
