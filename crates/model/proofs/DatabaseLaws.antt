-- The tests of `specs/Scheme.antt` and `specs/Database.antt` say what they are named for. Where a test and the fact that it tests have one name,
-- the test's is in lower case: `has-Has` leads from the test to the fact, `Has-has` back. Assumes nothing.
use Prim.Native.Nat.{ℕ}
use mathlib.Core.Path.{◌≡◌, refl, sym, ap, ◌∙◌}
use mathlib.Core.Bool.{true, false, ◌&&◌, and-eq-true_iff}
use borrow.Author.Tests.{eqb-true, eq-eqb}
use lib.Dec.{eqb}
use Rattle.finite.proofs.Bools.{both}
use Rattle.model.specs.Cell.{Cell, is_blank, equal}
use Rattle.model.specs.Scheme.{Column, same_column}
use Rattle.model.specs.Database.{Database, Has, has}
use Rattle.model.proofs.CellLaws.{equal-same, equal-full}

-- columns that test the same are the same
pub same-column : (j k : Column) → same_column j k ≡ true → j ≡ k
unfolding same_column
same-column j k e = λ i. record { table = eqb-true j.table k.table h.0 i; place = eqb-true j.place k.place h.1 i }
  where
    h : (eqb j.table k.table ≡ true) × (eqb j.place k.place ≡ true)
    h = (and-eq-true_iff (eqb j.table k.table) (eqb j.place k.place)).0 e

-- a column tests the same as itself
pub same-column-self : (k : Column) → same_column k k ≡ true
unfolding same_column
same-column-self k = both (eq-eqb k.table k.table refl) (eq-eqb k.place k.place refl)

-- a row that passes the test has the value
pub has-Has : (D : Database) (k : Column) (v : Cell) (r : ℕ) → has D k v r ≡ true → Has D k v r
unfolding has
has-Has D k v r e = record { live = a.0; table = eqb-true _ _ b.0; value = b.1 }
  where
    a : (D.live r ≡ true) × (eqb (D.table r) k.table && equal (D.cell r k.place) v ≡ true)
    a = (and-eq-true_iff (D.live r) _).0 e

    b : (eqb (D.table r) k.table ≡ true) × (equal (D.cell r k.place) v ≡ true)
    b = (and-eq-true_iff (eqb (D.table r) k.table) _).0 a.1

-- a row that has the value passes the test
pub Has-has : {D : Database} {k : Column} {v : Cell} {r : ℕ} → Has D k v r → has D k v r ≡ true
unfolding has
Has-has h = both h.live (both (eq-eqb _ _ h.table) h.value)

-- a value that a row has is not blank
pub has-full : {D : Database} {k : Column} {v : Cell} {r : ℕ} → Has D k v r → is_blank v ≡ false
has-full {D} {k} {v} {r} h = ap is_blank (sym (equal-same (D.cell r k.place) v h.value)) ∙ equal-full (D.cell r k.place) v h.value
