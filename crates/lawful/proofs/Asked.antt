-- What the functions that an operation calls ask of a design, rows and held values: a sound state has it. Assumes nothing.
use Prim.Native.Nat.{◌≤◌, ◌<◌}
use native.Mathlib.Omega.{arith}
use mathlib.Core.Path.{◌≡◌}
use mathlib.Core.Bool.{true}
use lib.ListN.{length}
use Rattle.model.specs.Scheme.{is_column}
use Rattle.state.specs.declared.design.Column.{Column}
use Rattle.state.specs.declared.design.Design.{Design}
use Rattle.state.specs.Design.{InRange, Backed}
use Rattle.state.specs.Held.{Bounded, Tidy}
use Rattle.state.specs.Meaning.{column_of, scheme_of}
use Rattle.state.specs.Lawful.{lawful_design}
use Rattle.state.specs.Lent.{State, long_enough, sound}
use Rattle.state.proofs.Arrays.{Sized, HeldSized}
use Rattle.lawful.proofs.DesignLaws.{column-says, design-says, in-range}
use Rattle.lawful.proofs.HeldLaws.{held-tidy, held-bounded}
use Rattle.lawful.proofs.SoundState.{long-parts, parts}

-- a column that exists lies below 8
pub column-below : (d : Design) → lawful_design d ≡ true → (k : Column) → is_column (scheme_of d) (column_of k) ≡ true → k.place < 8
unfolding scheme_of
column-below d w k e = let c = column-says (scheme_of d) (column_of k) e in omega (arith, c.place, ((design-says d w).table k.table c.table).most)

-- and its table too
pub table_below : (d : Design) → lawful_design d ≡ true → (k : Column) → is_column (scheme_of d) (column_of k) ≡ true → k.table < 8
unfolding scheme_of
table_below d w k e = omega (arith, (column-says (scheme_of d) (column_of k) e).table, (design-says d w).tables)

module _ (s : State) (e : sound s ≡ true) where
  pub sound-range : Sized s.design → InRange s.design
  sound-range z = in-range s.design z (parts s e).design

  pub sound-backed : Backed s.cells s.tables
  sound-backed = record { rows = (parts s e).long.cells; issued = (parts s e).long.issues; members = (parts s e).long.tables }

  pub sound-marks : 512 ≤ length s.marks
  sound-marks = (parts s e).long.marks

  pub sound-fillings : s.design.fillings ≤ 8
  sound-fillings = (design-says s.design (parts s e).design).fillings

  pub sound-tidy : Tidy s.held
  sound-tidy = held-tidy s.design s.held (parts s e).held

  pub sound-bounded : HeldSized s.held → Bounded s.held
  sound-bounded z = held-bounded s.design s.held (parts s e).design (parts s e).held z

  pub sound-column : (k : Column) → is_column (scheme_of s.design) (column_of k) ≡ true → k.place < 8
  sound-column = column-below s.design (parts s e).design

  pub sound-table : (k : Column) → is_column (scheme_of s.design) (column_of k) ≡ true → k.table < 8
  sound-table = table_below s.design (parts s e).design

-- buffers that are long enough
pub long-asked : (s : State) → long_enough s ≡ true → Backed s.cells s.tables × (512 ≤ length s.marks)
long-asked s e = let l = long-parts s e in (record { rows = l.cells; issued = l.issues; members = l.tables }, l.marks)
