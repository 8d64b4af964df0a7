-- What an operation asks of what it is lent, for some rows that it doesn't read. Assumes nothing.
use Rattle.std.specs.Prelude.{ℕ, ◌≡◌, true, List}
use Rattle.state.specs.Cells.{Cells}
use Rattle.state.specs.declared.design.Design.{Design}
use Rattle.state.specs.declared.held.Held.{Held}
use Rattle.state.specs.Meaning.{scheme_of, database_of}
use Rattle.state.specs.Lent.{lent, sound}
use Rattle.catalog.specs.Catalog.{Catalogued}

-- the state with these rows is sound, and the arrays are the catalog of these rows
pub record Ready (d : Design) (cells : Cells) (tables marks : List ℕ) (h : Held) (catalog keys : List ℕ) : Type 0 where
  pub sound-is : sound (lent d cells tables marks h) ≡ true
  pub catalogued : Catalogued (scheme_of d) (database_of cells tables) catalog keys
