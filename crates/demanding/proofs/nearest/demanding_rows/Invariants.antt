-- What the loops of `demanding::nearest::demanding_rows` keep.
use Rattle.demanding.specs.Demanding.{Demanding}
use Rattle.catalog.specs.Catalog.{Demands}
use Rattle.state.specs.Meaning.{scheme_of}
use Rattle.model.specs.Database.{Database}
use mathlib.Core.Path.{◌≡◌}
use Prim.Native.Nat.{◌≤◌}
use Rattle.demanding.proofs.nearest.demanding_rows.Given as goal

abbrev pub invariant-loop-i : goal.invariant-loop-i
invariant-loop-i l = (l.i ≤ l.i-end) × (l.i-end ≡ l.d.constraints) × ((D : Database) → Demands (scheme_of l.d) D l.catalog → Demanding (scheme_of l.d) D l.levels l.i l.near)
